use Rattle.writer.proofs.Repeating.{one_message}
use Rattle.writer.proofs.laws.one_message_a_line.Goals as goal

pub returns : goal.returns
returns c = one_message
