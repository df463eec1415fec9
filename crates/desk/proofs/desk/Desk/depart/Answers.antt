use Rattle.std.proofs.Common.{refl, rules}
use Rattle.desk.proofs.Parts.{departs}
use Rattle.desk.proofs.desk.Desk.depart.Goals as goal

pub returns : goal.returns
returns g c = departs _ _ _ _ _ c.min-end.ensures (search rules) refl c.depart.result c.depart.ensures.does
