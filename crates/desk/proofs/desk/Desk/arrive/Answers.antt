use Rattle.std.proofs.Common.{rules, sym, ◌∙◌}
use Rattle.escape.proofs.Fronting.{too_long as stays}
use Rattle.numbers.proofs.Texts.{none_fits}
use Rattle.desk.specs.Desks.{too_long}
use Rattle.desk.proofs.Parts.{arrives}
use Rattle.desk.proofs.desk.Desk.arrive.Goals as goal

pub returns-in-Some : goal.returns-in-Some
returns-in-Some g c = arrives _ _ _ c.in-Some.n c.arrive.result c.in-Some.ensures.answer c.in-Some.ensures.after c.arrive.ensures.does

pub returns-in-None : goal.returns-in-None
returns-in-None g c =
    let short = none_fits _ _ c.in-None.ensures.answer in
    too_long short (search rules) (search rules) (c.in-None.ensures.after ∙ sym (stays _ _ short).1)
