-- The lines of a script: each is ended by 10, or by 13 and 10, and the last need not be ended.
use Rattle.std.specs.Prelude.{◌≡◌, ℕ, ◌+◌, ◌-◌, ◌<◌, Bool, true, cond, List, [], ◌∷◌, length, take, drop, Some, None, codes, Option, ◌==◌, ◌≢◌, slice_index}
use Rattle.std.specs.Borrow.{Bor}

-- no byte before place i is 10
abbrev pub Unended : List ℕ → ℕ → Type 0
Unended s i = (k : ℕ) → k < i → slice_index s k ≢ 10

-- where the first 10 stands
abbrev pub Ends : List ℕ → Option ℕ → Type 0
Ends s None = Unended s (length s)
Ends s (Some i) = (i < length s) × (slice_index s i ≡ 10) × Unended s i

-- without a 13 at the end
abbrev pub without_return : List ℕ → List ℕ
without_return l = cond (slice_index l (length l - 1) == 13) (take (length l - 1) l) l

-- the first line and what follows it
pub data FirstLine (s line rest : List ℕ) : Type 0 where
  ended : (i : ℕ) → Ends s (Some i) → line ≡ without_return (take i s) → rest ≡ drop (i + 1) s → FirstLine s line rest
  last : Ends s None → line ≡ s → rest ≡ [] → FirstLine s line rest

-- an empty line, or a comment, which begins with a semicolon
abbrev pub silent : List ℕ → Bool
silent [] = true
silent (b ∷ s) = b == 59

-- the first line asks for line control, and the rest follows it; or the first line is another
abbrev pub Opens : List ℕ → Option (Bor (List ℕ)) → Type 0
Opens s (Some rest) = FirstLine s (codes "port controlled") rest.now
Opens s None = (rest : List ℕ) → FirstLine s (codes "port controlled") rest → ⊥
