use Rattle.std.proofs.Common.{◌<◌, [], ◌∷◌, ap, arith, rules, length, length-append}
use Rattle.line.specs.Meanings.{placed}
use Rattle.writer.specs.Canonical.{address_text}
use Rattle.writer.specs.Writing.{Lies}
use Rattle.writer.proofs.again.put_line.Goals as goal

pub returns : goal.returns
returns c =
    let was = c.args.out.now in
    let over = c.over-writer.ensures in
    let none : Lies was [] c.over-writer.result.out.now c.over-writer.result.len = record { len = over.none; held = over.kept; room = ap length over.kept } in
    let some : 0 < c.push_body.new.self.len = omega (arith, c.push_head.ensures.len, c.push_body.ensures.len, length-append (address_text (placed c.args.head.address)) (47 ∷ c.args.head.mark ∷ 47 ∷ [])) in
    let line = c.close.ensures.lies was _ some (c.push_body.ensures.lies was _ (c.push_head.ensures.lies was [] none)) in
    search rules
