-- The tokens of a list of bytes: each is one plain byte, or one escape and the byte that it stands for.
use Rattle.std.specs.Prelude.{ℕ, ◌+◌, ◌-◌, ◌*◌, Bool, true, false, cond, List, [], ◌∷◌, ◌++◌, length, Some, None, Option, ◌==◌, nat_le}

pub data Token : Type 0 where
  -- a byte outside an escape
  plain : ℕ → Token
  -- the bytes of an escape after its backslash, and the byte that it stands for
  escape : List ℕ → ℕ → Token
  -- a backslash that begins no escape, and all the bytes after it
  broken : List ℕ → Token

-- ---- what an escape stands for
abbrev pub digit : ℕ → Bool
digit c = cond (nat_le 48 c) (nat_le c 57) false

-- : / \ stand for themselves, n for byte 10, r for 13, t for 9
abbrev pub short : ℕ → Option ℕ
short x =
    cond (x == 58) (Some 58)
    (cond (x == 47) (Some 47)
    (cond (x == 92) (Some 92)
    (cond (x == 110) (Some 10)
    (cond (x == 114) (Some 13)
    (cond (x == 116) (Some 9) None)))))

abbrev pub three_digits : ℕ → ℕ → ℕ → ℕ
three_digits a b c = (a - 48) * 100 + (b - 48) * 10 + (c - 48)

-- after d, three digits from 000 to 255 stand for the byte of that number
abbrev pub numbered : ℕ → ℕ → ℕ → Option ℕ
numbered a b c =
    cond (digit a) (cond (digit b) (cond (digit c) (cond (nat_le (three_digits a b c) 255) (Some (three_digits a b c)) None) None) None) None

-- ---- the tokens
-- an escape and the tokens after it, or a broken one, after which nothing counts
abbrev pub escaping : Option ℕ → List ℕ → List ℕ → List Token → List Token
escaping None bytes after later = broken (bytes ++ after) ∷ []
escaping (Some b) bytes after later = escape bytes b ∷ later

abbrev mutual
  pub tokens : List ℕ → List Token
  tokens [] = []
  tokens (b ∷ s) = elim (b == 92) [ true ↦ after_backslash s | false ↦ plain b ∷ tokens s ]

  pub after_backslash : List ℕ → List Token
  after_backslash [] = broken [] ∷ []
  after_backslash (x ∷ s) = elim (x == 100) [ true ↦ after_d s | false ↦ escaping (short x) (x ∷ []) s (tokens s) ]

  pub after_d : List ℕ → List Token
  after_d [] = broken (100 ∷ []) ∷ []
  after_d (a ∷ []) = broken (100 ∷ a ∷ []) ∷ []
  after_d (a ∷ b ∷ []) = broken (100 ∷ a ∷ b ∷ []) ∷ []
  after_d (a ∷ b ∷ c ∷ s) = escaping (numbered a b c) (100 ∷ a ∷ b ∷ c ∷ []) s (tokens s)

-- ---- what a token is
-- the bytes that spell it
abbrev pub spelt : Token → List ℕ
spelt (plain b) = b ∷ []
spelt (escape bytes b) = 92 ∷ bytes
spelt (broken rest) = 92 ∷ rest

-- the byte that it stands for, if any
abbrev pub stands_for : Token → List ℕ
stands_for (plain b) = b ∷ []
stands_for (escape bytes b) = b ∷ []
stands_for (broken rest) = []

abbrev pub text : List Token → List ℕ
text [] = []
text (t ∷ ts) = spelt t ++ text ts

abbrev pub bytes_meant : List Token → List ℕ
bytes_meant [] = []
bytes_meant (t ∷ ts) = stands_for t ++ bytes_meant ts

-- a list of bytes with its escapes resolved
abbrev pub resolved : List ℕ → List ℕ
resolved s = bytes_meant (tokens s)

-- ---- places
abbrev pub further : ℕ → Option ℕ → Option ℕ
further n None = None
further n (Some p) = Some (n + p)

-- where the first backslash that begins no escape stands
abbrev pub first_broken : List Token → Option ℕ
first_broken [] = None
first_broken (plain b ∷ ts) = further 1 (first_broken ts)
first_broken (escape bytes b ∷ ts) = further (1 + length bytes) (first_broken ts)
first_broken (broken rest ∷ ts) = Some 0

-- ---- cutting
-- some bytes more in front of the first part
abbrev pub ahead : List ℕ → List (List ℕ) → List (List ℕ)
ahead bytes [] = bytes ∷ []
ahead bytes (p ∷ ps) = (bytes ++ p) ∷ ps

-- the parts between the bytes `c` that stand outside escapes, each as its bytes stand: one more than there are such bytes
abbrev pub parts_of : ℕ → List Token → List (List ℕ)
parts_of c [] = [] ∷ []
parts_of c (plain b ∷ ts) = elim (b == c) [ true ↦ [] ∷ parts_of c ts | false ↦ ahead (b ∷ []) (parts_of c ts) ]
parts_of c (escape bytes b ∷ ts) = ahead (92 ∷ bytes) (parts_of c ts)
parts_of c (broken rest ∷ ts) = ahead (92 ∷ rest) (parts_of c ts)

abbrev pub parts : ℕ → List ℕ → List (List ℕ)
parts c s = parts_of c (tokens s)
