use Rattle.link.proofs.Kept.{arrive_lives}
use Rattle.link.proofs.link.Link.arrive.Goals as goal

pub returns-clause-life : goal.returns-clause-life
returns-clause-life g c = arrive_lives _ _ _ _ c.do_arrive.ensures
