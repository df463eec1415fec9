use Rattle.writer.proofs.Growing.{lies_checked}
use Rattle.writer.proofs.writing.end.Goals as goal

pub returns-clause-lies : goal.returns-clause-lies
returns-clause-lies c = λ was l some o.
    let one = c.put-at.ensures.lies was l o in
    lies_checked was l _ _ _ c.put-at.result _ c.check_digits-check.ensures one.len one (c.put.ensures.lies was _ one)
