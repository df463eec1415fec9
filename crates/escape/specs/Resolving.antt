-- Bytes written to the front of a buffer, if it is long enough.
use Rattle.std.specs.Prelude.{ℕ, ◌<◌, cond, List, [], ◌∷◌, ◌++◌, length, drop, Some, None, Option, nat_le}
use Rattle.std.specs.Borrow.{Bor}
use Rattle.escape.specs.Tokens.{resolved}

-- how many bytes were written, if there is room for them
abbrev pub fitting : List ℕ → ℕ → Option ℕ
fitting bs room = cond (nat_le (length bs) room) (Some (length bs)) None

-- the buffer afterwards: its rest is untouched, and all of it if there is no room
abbrev pub written : List ℕ → List ℕ → List ℕ
written bs out = cond (nat_le (length bs) (length out)) (bs ++ drop (length bs) out) out

-- ---- one byte at a time: what some bytes mean, by the first byte meant and what follows it
abbrev pub meant_by : Option (ℕ × Bor (List ℕ)) → List ℕ
meant_by None = []
meant_by (Some p) = p.0 ∷ resolved p.1.now

abbrev pub Shorter : List ℕ → Option (ℕ × Bor (List ℕ)) → Type 0
Shorter s None = Unit {0}
Shorter s (Some p) = length p.1.now < length s
