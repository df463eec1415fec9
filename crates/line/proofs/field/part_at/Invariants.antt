use Rattle.std.proofs.Common.{◌≡◌, ◌-◌}
use Rattle.std.specs.List.{slice_get}
use Rattle.escape.specs.Tokens.{parts}
use Rattle.line.specs.Fields.{before_last}
use Rattle.line.proofs.field.part_at.Given as goal

-- the part that is sought, counted from where the loop has come
abbrev pub invariant-loop-passed : goal.invariant-loop-passed
invariant-loop-passed l = slice_get (before_last (parts 58 l.rest)) (l.index - l._passed) ≡ slice_get (before_last (parts 58 l.body)) l.index
