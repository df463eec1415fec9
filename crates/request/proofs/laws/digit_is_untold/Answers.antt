use Rattle.request.proofs.Judging.{untold}
use Rattle.request.proofs.laws.digit_is_untold.Goals as goal

pub returns : goal.returns
returns c = untold
