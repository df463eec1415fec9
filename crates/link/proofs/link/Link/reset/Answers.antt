use Rattle.link.proofs.Kept.{reset_lives}
use Rattle.link.proofs.link.Link.reset.Goals as goal

pub returns-clause-life : goal.returns-clause-life
returns-clause-life g c = reset_lives _ _ _ c.do_reset.ensures
