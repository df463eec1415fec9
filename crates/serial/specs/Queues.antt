-- What a ring queue holds, and what its calls make of that.
use Rattle.std.specs.Prelude.{◌≡◌, ℕ, ◌+◌, ◌-◌, ◌<◌, ◌≤◌, min, List, ◌++◌, length, take, drop}
use Rattle.serial.specs.Sizes.{capacity}
use Rattle.serial.specs.declared.queue.Queue.{Queue}

-- The bytes of a ring from its head on: two rounds of it laid out in a row hold every such run in one piece.
abbrev pub ring : List ℕ → ℕ → ℕ → List ℕ
ring bytes head len = take len (drop head (bytes ++ bytes))

-- Shut, since whoever uses a queue needs only what its calls say of this.
unfoldable pub held : Queue → List ℕ
held q = ring q.bytes q.head q.len

-- The first k bytes of src came in behind, as many as there is room for.
pub record Put (before after : Queue) (src : List ℕ) (k : ℕ) : Type 0 where
  pub count : k ≡ min (length src) (capacity - length (held before))
  pub holds : held after ≡ held before ++ take k src
  pub grown : length (held after) ≡ length (held before) + k

-- k bytes went out in front, to the front of a buffer, which was `old` and is `new`.
pub record Got (before after : Queue) (old new : List ℕ) (k : ℕ) : Type 0 where
  pub count : k ≡ min (length old) (length (held before))
  pub buffer : new ≡ take k (held before) ++ drop k old
  pub holds : held after ≡ drop k (held before)
  pub shrunk : length (held after) ≡ length (held before) - k

-- r is the place in the ring of the place n in two rounds of it.
pub record Wrapped (n r : ℕ) : Type 0 where
  pub below : r < capacity
  pub first : n < capacity → r ≡ n
  pub second : capacity ≤ n → r + capacity ≡ n
