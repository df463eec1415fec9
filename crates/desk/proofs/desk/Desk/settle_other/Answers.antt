use Rattle.std.proofs.Common.{refl, ◌∙◌}
use Rattle.desk.specs.Desks.{none_other}
use Rattle.desk.proofs.Others.{settles_other}
use Rattle.desk.proofs.desk.Desk.settle_other.Goals as goal

pub returns-in-Ok : goal.returns-in-Ok
returns-in-Ok g c = λ b. settles_other c.in-Ok.ticket c.settle.result (c.in-Ok.ensures.does.of_link ∙ c.new-other.ensures.number) c.settle.ensures.does

pub returns-in-Err : goal.returns-in-Err
returns-in-Err g c = λ b. none_other _ _ c.new-other.ensures.state c.in-Err.ensures.does refl refl refl
