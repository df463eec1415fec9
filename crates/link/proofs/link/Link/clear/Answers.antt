use Rattle.link.proofs.Kept.{clear_lives}
use Rattle.link.proofs.link.Link.clear.Goals as goal

pub returns-clause-life : goal.returns-clause-life
returns-clause-life g c = clear_lives _ _ _ c.do_clear.ensures
