use Rattle.std.proofs.Common.{◌≤◌}
use Rattle.script.proofs.Turns.{Valued}
use Rattle.script.proofs.words.size.Given as goal

abbrev pub invariant-loop-d : goal.invariant-loop-d
invariant-loop-d l = (l.value ≤ 4096) × Valued l.digits l.d-index l.value
