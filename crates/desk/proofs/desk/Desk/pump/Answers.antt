use Rattle.std.proofs.Common.{refl, rules}
use Rattle.desk.proofs.Parts.{pumps, pumps_not}
use Rattle.desk.proofs.desk.Desk.pump.Goals as goal

pub returns-in-Ok : goal.returns-in-Ok
returns-in-Ok g c = pumps _ _ _ _ _ c.min-end.ensures (search rules) refl c.in-Ok.pumped c.in-Ok.ensures.does

pub returns-in-Err : goal.returns-in-Err
returns-in-Err g c = pumps_not _ _ _ _ _ c.min-end.ensures (search rules) refl c.in-Err.fault c.in-Err.ensures.does
