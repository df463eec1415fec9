use Rattle.std.proofs.Common.{◌∙◌, arith}
use Rattle.line.proofs.Indices.{part_here}
use Rattle.line.proofs.field.part_at.Goals as goal

pub returns : goal.returns
returns c = part_here c.loop-passed.rest.now c.in_ok-cut.field-0.0.now c.in_ok-cut.field-0.1.now _ c.in_ok-cut.ensures.parts (omega arith) ∙ c.loop-passed.invariant
