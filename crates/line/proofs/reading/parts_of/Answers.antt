use Rattle.std.proofs.Common.{ℕ, take, ap, arith}
use Rattle.line.specs.Meanings.{side_of}
use Rattle.line.proofs.Cutting.{without_check, body_within, with_fourth}
use Rattle.line.proofs.reading.parts_of.Goals as goal

pub returns-in-Command : goal.returns-in-Command
returns-in-Command c =
    let first = c.in_ok-address.ensures in
    let second = c.in_ok-mark.ensures in (
      without_check c.args.line.now _ _ _ _ first.parts second.parts first.joins second.joins (side_of c.args.side) (ap side_of c.in-Command.is) c.in_default.ensures.parts,
      tt,
      body_within c.args.line.now _ _ _ _ first.parts second.parts first.joins second.joins,
    )

pub returns : goal.returns
returns c =
    let first = c.in_ok-address.ensures in
    let second = c.in_ok-mark.ensures in
    let third = c.in-Some.ensures in
    with_fourth c.args.line.now _ _ c.in_ok-address.address c.in_ok-mark.mark c.in-Some.body c.in-Some.check _ (side_of c.args.side) c.cut-4.result c.is_none.result _ first.parts second.parts first.joins second.joins third.parts third.joins c.cut-4.ensures.parts c.is_none.ensures c.then_some.ensures (ap (λ (k : ℕ). take k c.args.line.now) (omega arith))
