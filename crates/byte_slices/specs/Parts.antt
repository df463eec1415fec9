-- A part of a list, and what copies from and to one leave.
use Rattle.std.specs.Prelude.{◌≡◌, ℕ, ◌+◌, ◌-◌, min, List, ◌++◌, length, take, drop}

-- What stands from one place up to another, as far as the list goes.
abbrev pub part : List ℕ → ℕ → ℕ → List ℕ
part list first end = take (end - first) (drop first list)

-- The first k bytes of src were copied over the list from a place on, as many as both have.
pub record Filled (old new : List ℕ) (at : ℕ) (src : List ℕ) (k : ℕ) : Type 0 where
  pub count : k ≡ min (length old - at) (length src)
  pub list : new ≡ take at old ++ (take k src ++ drop (at + k) old)

-- The first k bytes of a part of src were copied to the front of a list, as many as both have.
-- What follows of the part: how long it is, and what it is without them.
pub record Copied (old new src : List ℕ) (first end : ℕ) (k : ℕ) : Type 0 where
  pub count : k ≡ min (length old) (min end (length src) - first)
  pub list : new ≡ take k (part src first end) ++ drop k old
  pub size : length (part src first end) ≡ min end (length src) - first
  pub rest : part src (first + k) end ≡ drop k (part src first end)
  pub left : length (part src (first + k) end) ≡ min end (length src) - (first + k)
