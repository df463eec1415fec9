use Rattle.std.proofs.Common.{length}
use Rattle.escape.proofs.Walking.{Passed}
use Rattle.escape.proofs.cut.Given as goal

abbrev pub invariant-loop-b : goal.invariant-loop-b
invariant-loop-b l = Passed l.at l.s l.rest

abbrev pub decreases-loop-b : goal.decreases-loop-b
decreases-loop-b l = length l.rest
