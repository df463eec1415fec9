use Rattle.std.proofs.Common.{refl}
use Rattle.desk.specs.Desks.{accepted, refused}
use Rattle.desk.proofs.desk.Desk.submit.Goals as goal

pub returns-in-Ok : goal.returns-in-Ok
returns-in-Ok g c = λ b. accepted c.in-Ok.ticket _ _ c.in-Ok.ensures.does c.number-n.ensures (rw c.from.ensures at c.hold.ensures.before) (rw c.from.ensures at c.hold.ensures.tickets) refl

pub returns-in-Err : goal.returns-in-Err
returns-in-Err g c = λ b. refused c.in-Err.ensures.does refl refl
