use Rattle.std.proofs.Common.{ℕ, ◌+◌, List, [], subst, arith, length-append, Bor}
use Rattle.writer.specs.Writing.{Pushed}
use Rattle.writer.proofs.Growing.{pushed_both, room_left}
use Rattle.writer.proofs.Fields.{length_more, line_more, all_bytes_more, no_longer_than_all}
use Rattle.writer.proofs.page.Writer.push_fields.Goals as goal

-- what is read past the end
none : Bor (List ℕ)
none = record { ref_ptr = (0, 0); now = [] }

pub push_field-requires : goal.push_field-requires
unfolding none
push_field-requires c =
    let refs = c.args.fields.now in
    let i = c.loop-field.field-index in
    room_left c.args.self.now c.loop-field.self _ _ _ c.requires c.loop-field.invariant.1 (omega (arith, length_more refs i none c.loop-field-test.true, no_longer_than_all refs (i + 1)))

pub push-requires : goal.push-requires
unfolding none
push-requires c =
    let refs = c.args.fields.now in
    let i = c.loop-field.field-index in
    let p = pushed_both _ _ _ _ _ c.loop-field.invariant.1 c.push_field.ensures.pushed in
    room_left _ _ _ _ 1 c.requires p (omega (arith, length_more refs i none c.loop-field-test.true, no_longer_than_all refs (i + 1), length-append {A = ℕ}))

pub loop-field-preserved : goal.loop-field-preserved
unfolding none
loop-field-preserved c =
    let refs = c.args.fields.now in
    let i = c.loop-field.field-index in
    let h = c.loop-field-test.true in
    let p = pushed_both _ _ _ _ _ c.loop-field.invariant.1 c.push_field.ensures.pushed in (
      all_bytes_more refs i none h c.loop-field.invariant.0 c.push_field.ensures.bytes,
      subst (Pushed c.args.self.now c.push.new.self) (line_more refs i none h) (pushed_both _ _ _ _ _ p c.push.ensures),
    )
