use Rattle.std.proofs.Common.{◌∙◌}
use Rattle.line.proofs.Bodies.{field_ended}
use Rattle.line.proofs.body.all_ended.Goals as goal

pub loop-after-preserved : goal.loop-after-preserved
loop-after-preserved c = c.loop-after.invariant ∙ field_ended c.loop-after.rest.now _ c.in-Some.after.now c.in-Some.ensures.parts
