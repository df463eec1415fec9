-- The theorem, by its lemma.
use Rattle.life.proofs.Witness.{possible}
use Rattle.life.proofs.promises_can_be_met.Goals as goal

pub returns : goal.returns
returns c = possible
