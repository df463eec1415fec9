use Rattle.std.proofs.Common.{◌∙◌, length-take, rules}
use Rattle.reader.specs.Unfinished.{part_of}
use Rattle.reader.proofs.Steps.{step_line, step_empty}
use Rattle.reader.proofs.unfinished.Unfinished.take.Goals as goal

pub returns-then-self-gt0 : goal.returns-then-self-gt0
unfolding part_of
returns-then-self-gt0 c = step_line (part_of c.args.self.now) c.args.byte (search rules) (search (rules, length-take))

pub returns : goal.returns
unfolding part_of
returns c = λ rest. step_empty (part_of c.args.self.now) c.args.byte (search rules) (search (rules, length-take)) rest ∙ search rules
