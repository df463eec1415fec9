use Rattle.desk.proofs.Ends.{opens}
use Rattle.desk.proofs.lines.without_port.Goals as goal

pub returns : goal.returns
returns c = opens _ _ _ _ _ _ c.then_some.ensures c.eq.ensures c.as_slice.ensures c.first_line.ensures.line
