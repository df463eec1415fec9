use Rattle.std.proofs.Common.{◌-◌, length, take, drop, rules}
use Rattle.line.specs.Forms.{name_byte}
use Rattle.line.proofs.Bodies.{by_letter}
use Rattle.line.proofs.Loops.{every_list}
use Rattle.line.proofs.body.is_name.Goals as goal

pub returns-then-later-le-LATER_MAX : goal.returns-then-later-le-LATER_MAX
returns-then-later-le-LATER_MAX c =
    let e = by_letter c.args.field.now (search rules) (search rules) (search rules) in
    let a = every_list name_byte (take (length c.args.field.now - 1) (drop 1 c.args.field.now)) in
    search rules
