use Rattle.link.proofs.Kept.{depart_lives}
use Rattle.link.proofs.link.Link.depart.Goals as goal

pub returns-clause-life : goal.returns-clause-life
returns-clause-life g c = depart_lives _ _ c.args.buffer.now _ _ c.do_depart.ensures
