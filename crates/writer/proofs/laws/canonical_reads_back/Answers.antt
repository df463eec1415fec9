use Rattle.writer.proofs.Backs.{reads_back}
use Rattle.writer.proofs.laws.canonical_reads_back.Goals as goal

pub returns : goal.returns
returns c = reads_back
