use Rattle.writer.proofs.Repeating.{writes_again}
use Rattle.writer.proofs.laws.read_writes_again.Goals as goal

pub returns : goal.returns
returns c = writes_again
