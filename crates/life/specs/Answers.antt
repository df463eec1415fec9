-- Which lines are a whole answer to a command, and what comes next in one.
use Rattle.std.specs.Prelude.{◌≡◌, ℕ, zero, suc, ◌<◌, Bool, true, false, cond, List, [], ◌∷◌, Some, None, Option, ◌==◌}
use Rattle.line.specs.Lines.{Message, meant}
use Rattle.life.specs.Codec.{Codec}

-- ---- whole answers, as the rules describe them
-- the lines are the result lines i + 1, i + 2 and so on up to n, each of status 000
pub data Results (K : Codec) (n : ℕ) : ℕ → List (List ℕ) → Type 0 where
  no_more : Results K n n []
  one_more : {i : ℕ} {ls : List (List ℕ)} (l : List ℕ) (m : Message) → i < n
      → K.as_answer l ≡ meant m → K.okay m ≡ true → K.result m ≡ Some (suc i)
      → Results K n (suc i) ls → Results K n i (l ∷ ls)

-- A command other than BROWSE is answered by one line. BROWSE is answered by one line of a status other than 000, or by a
-- listing: an overview of status 000 and as many result lines as it says.
pub data WholeAnswer (K : Codec) (command : Message) : List (List ℕ) → Type 0 where
  single : (l : List ℕ) (m : Message) → K.is_browse command ≡ false
      → K.as_answer l ≡ meant m → WholeAnswer K command (l ∷ [])
  other_status : (l : List ℕ) (m : Message) → K.is_browse command ≡ true
      → K.as_answer l ≡ meant m → K.okay m ≡ false → WholeAnswer K command (l ∷ [])
  listing : {ls : List (List ℕ)} (l : List ℕ) (m : Message) (n : ℕ) → K.is_browse command ≡ true
      → K.as_answer l ≡ meant m → K.okay m ≡ true → K.overview m ≡ Some n
      → Results K n 0 ls → WholeAnswer K command (l ∷ ls)

-- ---- line by line, as the link follows an answer
-- the place in an answer: at its start, or, `within i n`, after an overview that says n and i of its result lines
pub data Place : Type 0 where
  start : Place
  within : ℕ → ℕ → Place

-- what a line is at a place: not the one that comes next, the final line, or one after which the place is another
pub data Step : Type 0 where
  not_next : Step
  final : Step
  onward : Place → Step

abbrev pub after_overview : Option ℕ → Step
after_overview None = not_next
after_overview (Some zero) = final
after_overview (Some (suc n)) = onward (within 0 (suc n))

abbrev pub after_result : Option ℕ → ℕ → ℕ → Step
after_result None i n = not_next
after_result (Some k) i n = cond (k == suc i) (cond (suc i == n) final (onward (within (suc i) n))) not_next

-- the step of a message in the answer to a command, BROWSE or another
abbrev pub next : Codec → Bool → Place → Message → Step
next K false p m = final
next K true start m = cond (K.okay m) (after_overview (K.overview m)) final
next K true (within i n) m = cond (K.okay m) (after_result (K.result m) i n) not_next
