-- What the code takes off the front of some bytes, by their tokens.
use Rattle.std.specs.Prelude.{◌≡◌, ℕ, ◌-◌, List, [], ◌∷◌, ◌++◌, length, take, drop, Some, None, Option}
use Rattle.std.specs.Borrow.{Bor}
use Rattle.escape.specs.Tokens.{Token, plain, escape, broken, tokens, parts}
use Rattle.escape.specs.declared.Front.{Front}
use Rattle.escape.specs.declared.Front.TheVariants.{Over, Broken, Plain, Escape}

-- the tokens of `s`, if this is its front
abbrev pub opened : List ℕ → Front → List Token
opened s Over = []
opened s Broken = broken (drop 1 s) ∷ []
opened s (Plain b rest) = plain b ∷ tokens rest.now
opened s (Escape b rest) = escape (take (length s - length rest.now - 1) (drop 1 s)) b ∷ tokens rest.now

-- the parts of `s` between the bytes `c`, if this is what stands before and after the first of them
abbrev pub halved : ℕ → List ℕ → Option (Bor (List ℕ) × Bor (List ℕ)) → List (List ℕ)
halved c s None = s ∷ []
halved c s (Some halves) = halves.0.now ∷ parts c halves.1.now

-- the two halves, and the byte `c` between them, are the whole
abbrev pub Joins : ℕ → List ℕ → Option (Bor (List ℕ) × Bor (List ℕ)) → Type 0
Joins c s None = Unit {0}
Joins c s (Some halves) = s ≡ halves.0.now ++ (c ∷ halves.1.now)
