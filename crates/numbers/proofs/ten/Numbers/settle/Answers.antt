use Rattle.std.proofs.Common.{rules}
use Rattle.numbers.specs.Ten.{slots_of}
use Rattle.numbers.proofs.Standing.{past_kept, settled_at}
use Rattle.numbers.proofs.ten.Numbers.settle.Goals as goal

pub returns-then-n-ge-TEN-clause-slots : goal.returns-then-n-ge-TEN-clause-slots
unfolding slots_of
returns-then-n-ge-TEN-clause-slots c = past_kept c.args.self.now.slots c.args.n c.if-n-ge-TEN.true

pub returns-clause-slots : goal.returns-clause-slots
unfolding slots_of
returns-clause-slots c = settled_at c.args.self.now.slots c.args.n c.from-at.result _ c.from-at.ensures (search rules) (search rules) (search rules) _ _ c.settled-outcome.ensures.stands
