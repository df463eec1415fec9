-- Bytes at the front of a buffer, where a field was resolved.
use Rattle.std.proofs.Common.{◌≡◌, ℕ, ◌-◌, ◌<◌, ◌≤◌, ◌⊎◌, List, length, take, drop, Some, None, ap, ◌∙◌, inl, inr, arith}
use Rattle.std.proofs.lemmas.List.{take_at}
use Rattle.std.proofs.lemmas.Bool.{cases_lt, lt-leb, le-leb}
use Rattle.escape.specs.Resolving.{fitting, written}

-- ---- bytes at the front of a buffer, where they were written with room enough
pub none_fits : (bs : List ℕ) (room : ℕ) → None ≡ fitting bs room → room < length bs
none_fits bs room e = go (cases_lt room (length bs))
  where
    go : (room < length bs) ⊎ (length bs ≤ room) → room < length bs
    go (inl l) = l
    go (inr l) = let f : None ≡ Some (length bs) = rw (le-leb (length bs) room l) at e in let z : ◌≡◌ {A = ℕ} 0 1 = cc in absurd (omega arith)

pub some_fits : (bs : List ℕ) (room n : ℕ) → Some n ≡ fitting bs room → (n ≡ length bs) × (n ≤ room)
some_fits bs room n e = go (cases_lt room (length bs))
  where
    go : (room < length bs) ⊎ (length bs ≤ room) → (n ≡ length bs) × (n ≤ room)
    go (inl l) = let f : Some n ≡ None = rw (lt-leb (length bs) room l) at e in let z : ◌≡◌ {A = ℕ} 0 1 = cc in absurd (omega arith)
    go (inr l) = let f : Some n ≡ Some (length bs) = rw (le-leb (length bs) room l) at e in let q : n ≡ length bs = cc in (q, omega arith)

pub front_is : (bs out after : List ℕ) (n : ℕ) → Some n ≡ fitting bs (length out) → after ≡ written bs out → take (n - 0) after ≡ bs
front_is bs out after n e w =
    let f = some_fits bs (length out) n e in
    ap (take (n - 0)) (w ∙ rw (le-leb (length bs) (length out) (omega arith))) ∙ take_at bs (drop (length bs) out) (n - 0) (omega arith)
