use Rattle.std.proofs.Common.{length}
use Rattle.escape.proofs.Walking.{Sought}
use Rattle.escape.proofs.broken_at.Given as goal

abbrev pub invariant-loop-more : goal.invariant-loop-more
invariant-loop-more l = Sought l.s l.rest

abbrev pub decreases-loop-more : goal.decreases-loop-more
decreases-loop-more l = length l.rest
