use Rattle.std.proofs.Common.{◌≡◌, ◌+◌, ◌%◌, ◌<◌, drop}
use Rattle.line.specs.Forms.{sum}
use Rattle.line.proofs.check.check_sum.Given as goal

abbrev pub invariant-loop-b : goal.invariant-loop-b
invariant-loop-b l = (l.sum < 100) × ((l.sum + sum (drop l.b-index l.bytes)) % 100 ≡ sum l.bytes % 100)
