use Rattle.link.proofs.Kept.{submit_lives}
use Rattle.link.proofs.link.Link.submit.Goals as goal

pub returns-clause-life : goal.returns-clause-life
returns-clause-life g c = submit_lives _ _ c.args.address.now c.args.body.now _ c.do_submit.ensures.does
