-- A line of a script is a word, and for some calls one or two words more: words are separated by one space, and the last may hold spaces.
use Rattle.std.specs.Prelude.{ℕ, ◌+◌, ◌-◌, ◌*◌, Bool, true, false, cond, List, [], ◌∷◌, Some, None, codes, Option, ◌==◌, nat_le}
use Rattle.escape.specs.Tokens.{digit, tokens, first_broken}
use Rattle.escape.specs.Texts.{same_bytes}

pub data Call : Type 0 where
  submit : List ℕ → List ℕ → Call
  pump : ℕ → Call
  settle : ℕ → Call
  settle_other : Call
  reset : Call
  -- the bytes with their escapes
  arrive : List ℕ → Call
  depart : ℕ → Call
  clear : Bool → Call
  -- anything else
  unknown : Call

-- ---- words
abbrev pub is_space : ℕ → Bool
is_space b = b == 32

abbrev pub longer : ℕ → List ℕ × Option (List ℕ) → List ℕ × Option (List ℕ)
longer b p = (b ∷ p.0, p.1)

-- what stands before the first space, and what stands behind it if there is one
abbrev pub cut_word : List ℕ → List ℕ × Option (List ℕ)
cut_word [] = ([], None)
cut_word (b ∷ s) = elim (is_space b) [ true ↦ ([], Some s) | false ↦ longer b (cut_word s) ]

-- ---- numbers: one or more digits, at most `most`
abbrev pub one_digit_more : ℕ → ℕ → Option ℕ → Option ℕ
one_digit_more most d None = None
one_digit_more most d (Some n) = cond (digit d) (cond (nat_le (n * 10 + (d - 48)) most) (Some (n * 10 + (d - 48))) None) None

-- the digits that follow those of the value so far
abbrev pub digits_after : ℕ → Option ℕ → List ℕ → Option ℕ
digits_after most so_far [] = so_far
digits_after most so_far (d ∷ ds) = digits_after most (one_digit_more most d so_far) ds

abbrev pub number_to : ℕ → List ℕ → Option ℕ
number_to most [] = None
number_to most (d ∷ ds) = digits_after most (Some 0) (d ∷ ds)

-- ---- calls
abbrev pub or_unknown : {X : Type 0} → Option X → (X → Call) → Call
or_unknown None call = unknown
or_unknown (Some x) call = call x

abbrev pub submit_of : List ℕ × Option (List ℕ) → Call
submit_of p = or_unknown p.1 (submit p.0)

-- the buffer has 1,024 bytes if no size is given
abbrev pub pump_of : Option (List ℕ) → Call
pump_of None = pump 1024
pump_of (Some n) = or_unknown (number_to 4096 n) pump

abbrev pub one_digit : List ℕ → Option ℕ
one_digit [] = None
one_digit (d ∷ []) = cond (digit d) (Some (d - 48)) None
one_digit (d ∷ e ∷ s) = None

abbrev pub settle_of : List ℕ → Call
settle_of w = cond (same_bytes w (codes "other")) settle_other (or_unknown (one_digit w) settle)

abbrev pub unbroken : Option ℕ → List ℕ → Call
unbroken None text = arrive text
unbroken (Some place) text = unknown

abbrev pub clear_of : List ℕ → Call
clear_of w = cond (same_bytes w (codes "yes")) (clear true) (cond (same_bytes w (codes "no")) (clear false) unknown)

abbrev pub as_depart : ℕ → Call
as_depart n = depart n

-- a word with something behind it
abbrev pub call_with : List ℕ → List ℕ → Call
call_with word rest =
    cond (same_bytes word (codes "submit")) (submit_of (cut_word rest))
    (cond (same_bytes word (codes "pump")) (pump_of (Some rest))
    (cond (same_bytes word (codes "settle")) (settle_of rest)
    (cond (same_bytes word (codes "arrive")) (unbroken (first_broken (tokens rest)) rest)
    (cond (same_bytes word (codes "depart")) (or_unknown (number_to 4096 rest) as_depart)
    (cond (same_bytes word (codes "clear")) (clear_of rest)
    unknown)))))

-- a word alone
abbrev pub call_alone : List ℕ → Call
call_alone word =
    cond (same_bytes word (codes "pump")) (pump_of None)
    (cond (same_bytes word (codes "reset")) reset
    unknown)

abbrev pub call_of : List ℕ → Option (List ℕ) → Call
call_of word None = call_alone word
call_of word (Some rest) = call_with word rest

abbrev pub asks : List ℕ → Call
asks line = call_of (cut_word line).0 (cut_word line).1
