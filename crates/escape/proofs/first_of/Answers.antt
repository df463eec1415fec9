use Rattle.std.proofs.Common.{get_or, sym, refl, rules}
use Rattle.escape.proofs.Opening.{short_front, number_front}
use Rattle.escape.proofs.first_of.Goals as goal

pub returns-in-Some : goal.returns-in-Some
returns-in-Some c = number_front c.args.s.now c.in-Some.b (search rules) (search rules) (search rules) (sym c.in-Some.ensures)

pub returns-in-Some-by_letter : goal.returns-in-Some-by_letter
returns-in-Some-by_letter c =
    let s = c.args.s.now in
    short_front s (get_or s 1 0) c.in-Some-by_letter.b (search rules) (search rules) refl (sym c.in-Some-by_letter.ensures)
