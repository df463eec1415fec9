use Rattle.std.proofs.Common.{refl}
use Rattle.desk.specs.Desks.{were_lost, cleared, not_known}
use Rattle.desk.proofs.desk.Desk.obey.Goals as goal

pub returns-in-Reset : goal.returns-in-Reset
returns-in-Reset g c = rw (c.in-Some.is, c.in-Reset.is) (were_lost c.reset.ensures.does refl refl)

pub returns-in-Clear : goal.returns-in-Clear
returns-in-Clear g c = rw (c.in-Some.is, c.in-Clear.is) (cleared c.clear.ensures.does refl refl)

pub returns-in_default : goal.returns-in_default
returns-in_default g c = rw c.in_default.is (not_known refl refl refl)
