use Rattle.std.proofs.Common.{rules}
use Rattle.numbers.specs.Ours.{as_answer}
use Rattle.link.proofs.telling.read_answer.Goals as goal

pub returns : goal.returns
unfolding as_answer
returns c = search rules
