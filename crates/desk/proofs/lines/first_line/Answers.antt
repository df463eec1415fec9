use Rattle.std.proofs.Common.{refl, rules}
use Rattle.std.proofs.lemmas.List.{places}
use Rattle.desk.proofs.Ends.{first_ended}
use Rattle.desk.proofs.lines.first_line.Goals as goal

pub returns-in-Some : goal.returns-in-Some
returns-in-Some c =
    record {
      line = first_ended _ _ _ c.in-Some.i (search rules) c.without_return.ensures refl;
      shorter = λ some. search (rules, places);
    }
