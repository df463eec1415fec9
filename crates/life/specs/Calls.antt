-- Histories: what happened at a link since its making, one entry for each call and for each line that the player emitted.
use Rattle.std.specs.Prelude.{◌≡◌, ℕ, Bool, true, false, cond, List, [], ◌∷◌, ◌++◌, length}
use Rattle.line.specs.Lines.{Message, Read}

-- The kinds of line that pump tells. The last four hand the line to the ticket that last got the number.
pub data Kind : Type 0 where
  -- the line is faulty
  fault : Kind
  -- it has the mark ! or the mark ?
  event : Kind
  notice : Kind
  -- its number is neither open nor given up, or has another address
  stray : Kind
  -- it is not the line that comes next in the answer
  misplaced : Kind
  -- a line of the answer to an open number, and its final line
  more : ℕ → Kind
  last : ℕ → Kind
  -- the same for a number given up
  late : ℕ → Kind
  late_last : ℕ → Kind

-- what settle answers
pub data Outcome : Type 0 where
  answered : Outcome
  given_up : Outcome
  lost : Outcome
  -- the ticket is of another link, or no ticket out has its number
  foreign : Outcome

-- A line that the player emits, with the byte that ends it: an event, an empty line, or a line of the answer to the nth
-- command, from 0, that it received since the last reset.
pub data Line : Type 0 where
  event_line : List ℕ → ℕ → Line
  empty_line : ℕ → Line
  answer_line : ℕ → List ℕ → ℕ → Line

pub data Call : Type 0 where
  -- a call that was refused, or clear
  quiet : Call
  -- submit was accepted: the number, and the message with that number for its mark
  submitted : ℕ → Message → Call
  -- pump found no finished line
  dry : Call
  -- pump handed out a line: its kind, what stands of it in the buffer, and what it was read as
  handed : Kind → List ℕ → Read → Call
  -- settle: the link number and the number of the ticket, and the answer
  settled : ℕ → ℕ → Outcome → Call
  -- reset: how many numbers became lost
  reset : ℕ → Call
  -- the bytes that arrive took, and those that depart moved
  arrived : List ℕ → Call
  departed : List ℕ → Call
  -- no call: the player emitted a line
  emitted : Line → Call

-- the newest entry first
abbrev pub History : Type 0
History = List Call

-- ---- what one entry has
abbrev pub is_reset : Call → Bool
is_reset quiet = false
is_reset (submitted n m) = false
is_reset dry = false
is_reset (handed k l r) = false
is_reset (settled t n o) = false
is_reset (reset n) = true
is_reset (arrived bs) = false
is_reset (departed bs) = false
is_reset (emitted l) = false

abbrev pub bytes_in : Call → List ℕ
bytes_in quiet = []
bytes_in (submitted n m) = []
bytes_in dry = []
bytes_in (handed k l r) = []
bytes_in (settled t n o) = []
bytes_in (reset n) = []
bytes_in (arrived bs) = bs
bytes_in (departed bs) = []
bytes_in (emitted l) = []

abbrev pub bytes_out : Call → List ℕ
bytes_out quiet = []
bytes_out (submitted n m) = []
bytes_out dry = []
bytes_out (handed k l r) = []
bytes_out (settled t n o) = []
bytes_out (reset n) = []
bytes_out (arrived bs) = []
bytes_out (departed bs) = bs
bytes_out (emitted l) = []

-- a line that pump handed out: what stands of it in the buffer, and what it was read as
abbrev pub shown : Call → List (List ℕ × Read)
shown quiet = []
shown (submitted n m) = []
shown dry = []
shown (handed k l r) = (l, r) ∷ []
shown (settled t n o) = []
shown (reset n) = []
shown (arrived bs) = []
shown (departed bs) = []
shown (emitted l) = []

-- an accepted submit: its number
abbrev pub accepted : Call → List ℕ
accepted quiet = []
accepted (submitted n m) = n ∷ []
accepted dry = []
accepted (handed k l r) = []
accepted (settled t n o) = []
accepted (reset n) = []
accepted (arrived bs) = []
accepted (departed bs) = []
accepted (emitted l) = []

-- and its message
abbrev pub messages : Call → List Message
messages quiet = []
messages (submitted n m) = m ∷ []
messages dry = []
messages (handed k l r) = []
messages (settled t n o) = []
messages (reset n) = []
messages (arrived bs) = []
messages (departed bs) = []
messages (emitted l) = []

abbrev pub outcomes : Call → List Outcome
outcomes quiet = []
outcomes (submitted n m) = []
outcomes dry = []
outcomes (handed k l r) = []
outcomes (settled t n o) = o ∷ []
outcomes (reset n) = []
outcomes (arrived bs) = []
outcomes (departed bs) = []
outcomes (emitted l) = []

abbrev pub lines : Call → List Line
lines quiet = []
lines (submitted n m) = []
lines dry = []
lines (handed k l r) = []
lines (settled t n o) = []
lines (reset n) = []
lines (arrived bs) = []
lines (departed bs) = []
lines (emitted l) = l ∷ []

-- ---- what a history has, in order
-- xs ++ ys, in a form that computes to xs where ys is empty
abbrev pub add_to : {X : Type 0} → List X → List X → List X
add_to xs [] = xs
add_to xs (y ∷ ys) = xs ++ (y ∷ ys)

-- what all its entries have
abbrev pub ever : {X : Type 0} → (Call → List X) → History → List X
ever part [] = []
ever part (c ∷ h) = add_to (ever part h) (part c)

-- what the entries since the last reset have; the making counts as a first reset, with `first` there already
abbrev pub since : {X : Type 0} → (Call → List X) → List X → History → List X
since part first [] = first
since part first (c ∷ h) = cond (is_reset c) [] (add_to (since part first h) (part c))

-- how many submits were accepted before the last reset
abbrev pub before : History → ℕ
before [] = 0
before (c ∷ h) = cond (is_reset c) (length (ever accepted h)) (before h)

-- xs is a beginning of ys
abbrev pub Begins : {X : Type 0} → List X → List X → Type 0
Begins {X = X} xs ys = (rest : List X) × (xs ++ rest ≡ ys)
