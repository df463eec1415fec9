use Rattle.std.proofs.Common.{◌∙◌, rules}
use Rattle.std.proofs.Output.{has_written_of_eq}
use Rattle.console.proofs.Spelling.{Plain, by_number, three_digits}
use Rattle.console.proofs.spelled.SpelledByteDisplay.fmt.Goals as goal

pub returns-in_default-clause-writes : goal.returns-in_default-clause-writes
returns-in_default-clause-writes g c plain ok =
    let b = c.args.self.now.0 in
    let p : Plain b = search rules in
    has_written_of_eq g.W.Write.write_str_gives _ _ _ _ (three_digits b (search rules) ∙ by_number b p (search rules)) (c.write.ensures.writes plain ok)
