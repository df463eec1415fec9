use Rattle.std.proofs.Common.{◌≡◌, ◌+◌, length}
use Rattle.escape.specs.Tokens.{resolved}
use Rattle.escape.proofs.Fronting.{laid}
use Rattle.escape.proofs.resolving.resolve.Given as goal

-- what is left to write gives what is to be written
abbrev pub invariant-loop-i : goal.invariant-loop-i
invariant-loop-i l =
    (laid l.out l.i-iterator.count (resolved l.i-iterator.iter.0.now) ≡ laid l.fn.out 0 (resolved l.field))
    × (l.i-iterator.count + length (resolved l.i-iterator.iter.0.now) ≡ length (resolved l.field))
