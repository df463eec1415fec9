use Rattle.std.proofs.Common.{rules}
use Rattle.line.specs.Meanings.{message_of}
use Rattle.numbers.specs.Ten.{slots_of}
use Rattle.numbers.proofs.Standing.{told_at}
use Rattle.numbers.proofs.ten.Numbers.told.Goals as goal

pub returns-clause-life : goal.returns-clause-life
unfolding slots_of
returns-clause-life c = told_at c.args.self.now.slots c.args.n c.from-at.result _ c.from-at.ensures (search rules) (search rules) (search rules) (message_of c.args.message.now) _ _ (c.told-told.ensures c.args.n)
