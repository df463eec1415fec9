use Rattle.std.proofs.Common.{◌+◌, sym, subst, arith}
use Rattle.writer.specs.Writing.{Pushed}
use Rattle.writer.proofs.Growing.{pushed_both, room_left, spelling_more, within, longer}
use Rattle.writer.proofs.Opening.{every_byte}
use Rattle.writer.proofs.page.Writer.push_field.Goals as goal

pub push_spelled-requires : goal.push_spelled-requires
push_spelled-requires c =
    let s = c.args.field.now in
    let i = c.loop-b.b-index in
    room_left c.args.self.now c.loop-b.self _ _ _ c.requires c.loop-b.invariant (omega (arith, longer s i (omega arith), within s (i + 1)))

pub loop-b-preserved : goal.loop-b-preserved
loop-b-preserved c =
    subst (Pushed c.args.self.now c.push_spelled.new.self) (sym (spelling_more c.args.field.now c.loop-b.b-index (omega arith)))
    (pushed_both _ _ _ _ _ c.loop-b.invariant c.push_spelled.ensures)

pub returns-clause-bytes : goal.returns-clause-bytes
returns-clause-bytes c = every_byte c.args.field.now c.type_inv.field
