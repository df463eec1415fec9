-- The theorem, by its lemma.
use Rattle.life.proofs.Answering.{ends_once}
use Rattle.life.proofs.answers_end_once.Goals as goal

pub returns : goal.returns
returns c = ends_once
