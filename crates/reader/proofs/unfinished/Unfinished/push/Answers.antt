use Rattle.std.proofs.Common.{rules}
use Rattle.reader.specs.Unfinished.{part_of}
use Rattle.reader.proofs.Steps.{grows, spills}
use Rattle.reader.proofs.unfinished.Unfinished.push.Goals as goal

pub returns-then-self-lt-MOST : goal.returns-then-self-lt-MOST
unfolding part_of
returns-then-self-lt-MOST c = search (rules, grows)

pub returns-else-self-lt-MOST : goal.returns-else-self-lt-MOST
unfolding part_of
returns-else-self-lt-MOST c = search (rules, spills)
