use Rattle.line.proofs.Bodies.{first_if_ended}
use Rattle.line.proofs.body.first_field.Goals as goal

pub returns : goal.returns
returns c = first_if_ended c.args.body.now c.in_ok-first.first c.in_ok-first.later.now _ _ c.in_ok-first.ensures.parts c.all_ended.ensures c.then_some.ensures
