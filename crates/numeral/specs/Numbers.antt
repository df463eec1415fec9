-- Numbers in digits.
use Rattle.std.specs.Prelude.{ℕ, zero, suc, ◌+◌, ◌-◌, ◌*◌, ◌/◌, ◌%◌, ◌^◌, ◌<◌, cond, List, [], ◌∷◌, length, Some, None, Option, ◌==◌, nat_le}
use Rattle.escape.specs.Tokens.{digit}

-- the number that digits go on to spell, when those before them spell n
unfoldable pub spelled_on : ℕ → List ℕ → Option ℕ
spelled_on n [] = Some n
spelled_on n (d ∷ ds) = cond (digit d) (spelled_on (n * 10 + (d - 48)) ds) None

-- a number of exactly so many digits
abbrev pub numeral : ℕ → List ℕ → Option ℕ
numeral width s = cond (length s == width) (spelled_on 0 s) None

-- the same of at most five digits
abbrev pub short_numeral : ℕ → List ℕ → Option ℕ
short_numeral width s = cond (nat_le width 5) (numeral width s) None

abbrev pub at_most : ℕ → Option ℕ → Option ℕ
at_most most None = None
at_most most (Some n) = cond (nat_le n most) (Some n) None

-- a count: 1 to 5 digits, at most 65,535
abbrev pub counted : List ℕ → Option ℕ
counted s = cond (nat_le 1 (length s)) (cond (nat_le (length s) 5) (at_most 65535 (spelled_on 0 s)) None) None

-- a number that is read is below the limit
abbrev pub Below : ℕ → Option ℕ → Type 0
Below limit None = Unit {0}
Below limit (Some n) = n < limit

-- ---- what is resolved into a buffer of a few bytes
-- the bytes, if there is room for them
abbrev pub if_fits : List ℕ → ℕ → Option (List ℕ)
if_fits bs room = cond (nat_le (length bs) room) (Some bs) None

-- ---- how numbers are written
-- the last digits of a number
unfoldable pub in_digits : ℕ → ℕ → List ℕ
in_digits zero n = []
in_digits (suc width) n = (48 + n / 10 ^ width % 10) ∷ in_digits width n

-- a count has no leading zeros
abbrev pub width_of : ℕ → ℕ
width_of n = cond (nat_le n 9) 1 (cond (nat_le n 99) 2 (cond (nat_le n 999) 3 (cond (nat_le n 9999) 4 5)))

unfoldable pub in_count : ℕ → List ℕ
in_count n = in_digits (width_of n) n
