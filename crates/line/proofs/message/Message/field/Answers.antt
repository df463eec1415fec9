use Rattle.std.proofs.Common.{sym, ap, ◌∙◌}
use Rattle.std.specs.List.{slice_get}
use Rattle.line.specs.Meanings.{message_of}
use Rattle.line.specs.Reads.{behind}
use Rattle.line.proofs.Indices.{Answered, first_written, later_written}
use Rattle.line.proofs.message.Message.field.Goals as goal
use Rattle.line.proofs.message.Message.field.Goals.{then-index-eq0, else-index-eq0}

pub returns : goal.returns
returns c =
    let raw = c.in_ok-raw.raw.now in
    let here = ap behind (sym c.in_ok-raw.ensures.ok_part) ∙ c.raw_field.ensures in
    let h : Answered c.args.out.now c.if-index-eq0.out c.args.index c.ok_or-2.result (slice_get (message_of c.args.self.now).fields c.args.index) =
    elim c.if-index-eq0.branch [
      | then-index-eq0 w ↦ first_written c.args.self.now c.args.out.now c.if-index-eq0.out raw c.args.index c.if-index-eq0.written c.ok_or-2.result here w.if-index-eq0.true c.ok_or-2.ensures.value (w.written-is ∙ w.copy_to_front-written.ensures.answer) (w.out-is ∙ w.copy_to_front-written.ensures.after)
      | else-index-eq0 w ↦ later_written c.args.self.now c.args.out.now c.if-index-eq0.out raw c.args.index c.if-index-eq0.written c.ok_or-2.result here w.if-index-eq0.false c.ok_or-2.ensures.value (w.written-is ∙ w.resolve-written.ensures.answer) (w.out-is ∙ w.resolve-written.ensures.after)
    ] in
    record { answer = h.answer; after = h.after }
