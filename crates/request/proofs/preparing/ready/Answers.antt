use Rattle.std.proofs.Common.{ℕ, length, is_ok, Result, ap, ◌∙◌}
use Rattle.line.specs.Meanings.{message_of}
use Rattle.line.specs.declared.fault.Fault.{Fault}
use Rattle.writer.specs.Canonical.{canonical}
use Rattle.writer.specs.Rewriting.{rewritten}
use Rattle.request.proofs.Readying.{fine, kept, kept_as, goes_well}
use Rattle.request.proofs.preparing.ready.Goals as goal

pub unwrap-pending-requires : goal.unwrap-pending-requires
unwrap-pending-requires c = kept (message_of c.args.message.now) c.begun.result c.requires.0 c.begun.ensures

pub unwrap-length-requires : goal.unwrap-length-requires
unwrap-length-requires c =
    let m = message_of c.args.message.now in
    let h = fine m (length c.args.out.now) c.requires.0 c.requires.1 in
    ap (λ (r : Result ℕ Fault). is_ok r) (goes_well (canonical m) _ c.rewrite.result h.fault c.rewrite.ensures.answer)

pub returns : goal.returns
returns c =
    let m = message_of c.args.message.now in
    let h = fine m (length c.args.out.now) c.requires.0 c.requires.1 in
    let ok = goes_well (canonical m) _ c.rewrite.result h.fault c.rewrite.ensures.answer in
    let is = c.unwrap-length.ensures in
    record {
      length_of = cc;
      short = h.short;
      held = c.rewrite.ensures.after ∙ ap (rewritten (canonical m) c.args.out.now) h.fault;
      pending = kept_as m c.begun.result c.unwrap-pending.result c.requires.0 c.begun.ensures c.unwrap-pending.ensures;
    }
