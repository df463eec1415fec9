use Rattle.std.proofs.Common.{refl, rules}
use Rattle.desk.specs.Desks.{settled, not_held, no_number}
use Rattle.desk.proofs.desk.Desk.settle.Goals as goal

pub returns-then-n-ge10 : goal.returns-then-n-ge10
returns-then-n-ge10 g c = λ b. no_number (search rules) refl refl refl

pub returns-in-Some : goal.returns-in-Some
returns-in-Some g c = λ b. settled (search rules) (search rules) refl

pub returns-in-None : goal.returns-in-None
returns-in-None g c = λ b. not_held (search rules) (search rules) refl
