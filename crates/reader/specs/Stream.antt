-- Cutting a stream of bytes into items, where the bytes up to an item's end decide that it ends there.
use Rattle.std.specs.Prelude.{ℕ, List, [], ◌∷◌, ◌++◌}

-- a way to cut: what a byte makes of that which is held since the last end, and the item that it finishes, if any
pub record Cutter (S X : Type 0) : Type 0 where
  pub feed : S → ℕ → S
  pub gives : S → ℕ → List X

-- the items that end in the bytes, with s held before them
abbrev pub run : {S X : Type 0} → Cutter S X → S → List ℕ → List X
run C s [] = []
run C s (b ∷ bs) = C.gives s b ++ run C (C.feed s b) bs

-- what is held after the bytes
abbrev pub after : {S X : Type 0} → Cutter S X → S → List ℕ → S
after C s [] = s
after C s (b ∷ bs) = after C (C.feed s b) bs

-- bytes taken until an item is finished, or all: what is held then; or the item, what is held after it, and the bytes not taken
pub data Cut (S X : Type 0) : Type 0 where
  dry_at : S → Cut S X
  cut_off : X → S → List ℕ → Cut S X

-- the first of the items, or else what comes later
abbrev pub found : {S X : Type 0} → List X → S → List ℕ → Cut S X → Cut S X
found [] s bs later = later
found (x ∷ xs) s bs later = cut_off x s bs

abbrev pub first_cut : {S X : Type 0} → Cutter S X → S → List ℕ → Cut S X
first_cut C s [] = dry_at s
first_cut C s (b ∷ bs) = found (C.gives s b) (C.feed s b) bs (first_cut C (C.feed s b) bs)
