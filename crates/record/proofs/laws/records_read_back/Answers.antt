use Rattle.record.proofs.Rounds.{way_round}
use Rattle.record.proofs.laws.records_read_back.Goals as goal

pub returns : goal.returns
returns c = way_round
