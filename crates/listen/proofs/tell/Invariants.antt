use Rattle.std.proofs.Common.{◌≡◌, length}
use Rattle.listen.proofs.tell.Given as goal

abbrev pub invariant-loop : goal.invariant-loop
invariant-loop l = length l.buffer ≡ 1024
