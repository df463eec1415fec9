use Rattle.std.proofs.Common.{◌≡◌, length}
use Rattle.numbers.proofs.Standing.{ResetUpTo, standing}
use Rattle.numbers.proofs.ten.Numbers.reset.Given as goal

-- the numbers before the place are reset and counted, and the others stand as before
abbrev pub invariant-loop-slot : goal.invariant-loop-slot
invariant-loop-slot l = record { ten : length l.slot-items ≡ 10; upto : ResetUpTo (standing l.initial.slot-items) l.slot-index l.count (standing l.slot-items) }
