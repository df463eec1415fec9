use Rattle.request.proofs.Judging.{sends}
use Rattle.request.proofs.laws.requests_can_be_sent.Goals as goal

pub returns : goal.returns
returns c = sends
