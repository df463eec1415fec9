-- How the bytes of a field are spelled in a line: the one way of several that is written.
use Rattle.std.specs.Prelude.{ℕ, ◌+◌, ◌/◌, ◌%◌, cond, List, [], ◌∷◌, ◌++◌, Some, None, Option, ◌==◌, nat_le}

-- the letter of the short escape for a byte: : / \ are their own, n is for byte 10, r for 13, t for 9
abbrev pub letter_for : ℕ → Option ℕ
letter_for b =
    cond (b == 58) (Some 58)
    (cond (b == 47) (Some 47)
    (cond (b == 92) (Some 92)
    (cond (b == 10) (Some 110)
    (cond (b == 13) (Some 114)
    (cond (b == 9) (Some 116) None)))))

-- a backslash, d, and the byte's number in three digits
abbrev pub in_digits : ℕ → List ℕ
in_digits b = 92 ∷ 100 ∷ (48 + b / 100) ∷ (48 + b / 10 % 10) ∷ (48 + b % 10) ∷ []

-- a byte with no letter stands for itself if it is from 32 to 126, and else is spelled by its number
abbrev pub spelled_with : Option ℕ → ℕ → List ℕ
spelled_with (Some x) b = 92 ∷ x ∷ []
spelled_with None b = cond (nat_le 32 b) (cond (nat_le b 126) (b ∷ []) (in_digits b)) (in_digits b)

abbrev pub spelled : ℕ → List ℕ
spelled b = spelled_with (letter_for b) b

abbrev pub spelling : List ℕ → List ℕ
spelling [] = []
spelling (b ∷ bs) = spelled b ++ spelling bs
