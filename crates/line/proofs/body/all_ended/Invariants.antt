use Rattle.std.proofs.Common.{◌≡◌, length, is_some}
use Rattle.escape.specs.Tokens.{parts}
use Rattle.line.specs.Lines.{all_ended}
use Rattle.line.proofs.body.all_ended.Given as goal

abbrev pub invariant-loop-after : goal.invariant-loop-after
invariant-loop-after l = is_some (all_ended (parts 58 l.fields)) ≡ is_some (all_ended (parts 58 l.rest))

abbrev pub decreases-loop-after : goal.decreases-loop-after
decreases-loop-after l = length l.rest
