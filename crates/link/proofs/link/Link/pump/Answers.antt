use Rattle.link.proofs.Kept.{pump_lives}
use Rattle.link.proofs.link.Link.pump.Goals as goal

pub returns-clause-life : goal.returns-clause-life
returns-clause-life g c = pump_lives _ _ c.args.buffer.now _ _ c.do_pump.ensures.does
