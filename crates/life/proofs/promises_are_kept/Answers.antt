-- The theorem, by its lemma.
use Rattle.life.proofs.Kept.{kept}
use Rattle.life.proofs.promises_are_kept.Goals as goal

pub returns : goal.returns
returns c = kept
