use Rattle.link.proofs.Kept.{settle_lives}
use Rattle.link.proofs.link.Link.settle.Goals as goal

pub returns-clause-life : goal.returns-clause-life
returns-clause-life g c = settle_lives _ _ _ _ _ c.do_settle.ensures.does
