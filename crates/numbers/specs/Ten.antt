-- The ten numbers, as a link's state has them.
use Rattle.std.specs.Prelude.{ℕ, ◌<◌, cond, Some, None, Option, ◌≢◌, nat_lt, slice_index_or}
use Rattle.life.specs.Link.{is_free, FirstFree}
use Rattle.life.specs.Link.{Slot as Standing}
use Rattle.numbers.specs.Slots.{slot_of}
use Rattle.numbers.specs.declared.slot.Slot.TheVariants.{Free}
use Rattle.numbers.specs.declared.ten.Numbers.{Numbers}

-- How the number n stands; beyond 9 it is free. Shut, since its users need only what the calls say of it.
unfoldable pub slots_of : Numbers → ℕ → Standing
slots_of x n = cond (nat_lt n 10) (slot_of (slice_index_or x.slots n Free)) is_free

-- the first number after r that is free, or none if none is
abbrev pub NextFree : (ℕ → Standing) → ℕ → Option ℕ → Type 0
NextFree slots r (Some n) = (n < 10) × FirstFree slots r n
NextFree slots r None = (k : ℕ) → k < 10 → slots k ≢ is_free
