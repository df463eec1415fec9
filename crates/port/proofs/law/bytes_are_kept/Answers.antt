use Rattle.port.proofs.Runs.{keeps}
use Rattle.port.proofs.law.bytes_are_kept.Goals as goal

pub returns : goal.returns
returns c = keeps
