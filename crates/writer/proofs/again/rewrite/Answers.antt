use Rattle.std.proofs.Common.{◌≡◌, ℕ, List, Err, length, sym, ◌∙◌, subst, arith, rules}
use Rattle.line.specs.declared.fault.Fault.TheVariants.{TooLong}
use Rattle.line.specs.Meanings.{message_of}
use Rattle.writer.specs.Canonical.{first_formed, canonical}
use Rattle.writer.specs.Writing.{Lies}
use Rattle.writer.proofs.Opening.{mark_refuses}
use Rattle.writer.proofs.Fields.{fault_of}
use Rattle.writer.proofs.Pieces.{first_by, canonical_is, canonical_size, refuses_form, refuses_line, refuses_long, wrote}
use Rattle.writer.proofs.again.rewrite.Goals as goal

pub returns-in_err-head : goal.returns-in_err-head
returns-in_err-head c =
    let m = c.args.message.now in
    let n = message_of m in
    let form = mark_refuses n.side n.address n.mark (first_formed n.side n.fields) c.in_err-head.field-0.0 c.in_err-head.ensures.answer in
    let h = refuses_form n c.args.out.now c.in_err-head.field-0.0 form in
    let e : c.from_residual.result ≡ Err c.in_err-head.field-0.0 = search rules in
    record { answer = e ∙ h.answer; after = h.after }

pub returns-in_err-takes : goal.returns-in_err-takes
returns-in_err-takes c =
    let m = c.args.message.now in
    let forms = first_by m c.raw_field.result c.in_ok-head.head c.in_ok-head.ensures.made c.raw_field.ensures c.in_ok-head.ensures.answer in
    let form = c.in_err-takes.ensures ∙ forms in
    let h = refuses_form (message_of m) c.args.out.now c.in_err-takes.field-0.0 form in
    let e : c.from_residual-in_err-takes.result ≡ Err c.in_err-takes.field-0.0 = search rules in
    record { answer = e ∙ h.answer; after = h.after }

pub returns-in_err-body_len : goal.returns-in_err-body_len
returns-in_err-body_len c =
    let m = c.args.message.now in
    let forms = first_by m c.raw_field.result c.in_ok-head.head c.in_ok-head.ensures.made c.raw_field.ensures c.in_ok-head.ensures.answer in
    let form = c.in_ok-takes.ensures ∙ forms in
    let head = c.in_ok-head.head in
    let same = c.in_ok-head.ensures.made in
    let size = canonical_size m form head c.body-body.result.now same c.body-body.ensures in
    let h = refuses_long (message_of m) c.args.out.now form (omega (arith, size, c.in_err-body_len.ensures)) in
    let e : c.from_residual-in_err-body_len.result ≡ Err TooLong = search rules in
    record { answer = e ∙ h.answer; after = h.after }

pub returns-in_err-len : goal.returns-in_err-len
returns-in_err-len c =
    let m = c.args.message.now in
    let forms = first_by m c.raw_field.result c.in_ok-head.head c.in_ok-head.ensures.made c.raw_field.ensures c.in_ok-head.ensures.answer in
    let form = c.in_ok-takes.ensures ∙ forms in
    let head = c.in_ok-head.head in
    let same = c.in_ok-head.ensures.made in
    let size = canonical_size m form head c.body-body.result.now same c.body-body.ensures in
    let h = refuses_long (message_of m) c.args.out.now form (omega (arith, size, c.len.ensures.text, c.in_ok-body_len.ensures, c.in_err-len.ensures)) in
    let e : c.from_residual-in_err-len.result ≡ Err TooLong = search rules in
    record { answer = e ∙ h.answer; after = h.after }

pub returns-in_err-fits : goal.returns-in_err-fits
returns-in_err-fits c =
    let m = c.args.message.now in
    let forms = first_by m c.raw_field.result c.in_ok-head.head c.in_ok-head.ensures.made c.raw_field.ensures c.in_ok-head.ensures.answer in
    let form = c.in_ok-takes.ensures ∙ forms in
    let head = c.in_ok-head.head in
    let same = c.in_ok-head.ensures.made in
    let size = canonical_size m form head c.body-body.result.now same c.body-body.ensures in
    let len : c.in_ok-len.len ≡ length (canonical (message_of m)) = omega (arith, size, c.len.ensures.text, c.in_ok-body_len.ensures, c.in_ok-len.ensures) in
    let h = refuses_line (message_of m) c.args.out.now form c.in_err-fits.field-0.0 (fault_of c.in_err-fits.ensures (length (canonical (message_of m))) (length c.args.out.now) len (omega arith)) in
    let e : c.from_residual-in_err-fits.result ≡ Err c.in_err-fits.field-0.0 = search rules in
    record { answer = e ∙ h.answer; after = h.after }

pub returns : goal.returns
returns c =
    let m = c.args.message.now in
    let forms = first_by m c.raw_field.result c.in_ok-head.head c.in_ok-head.ensures.made c.raw_field.ensures c.in_ok-head.ensures.answer in
    let form = c.in_ok-takes.ensures ∙ forms in
    let head = c.in_ok-head.head in
    let same = c.in_ok-head.ensures.made in
    let size = canonical_size m form head c.body-body.result.now same c.body-body.ensures in
    let len : c.in_ok-len.len ≡ length (canonical (message_of m)) = omega (arith, size, c.len.ensures.text, c.in_ok-body_len.ensures, c.in_ok-len.ensures) in
    let h = wrote (message_of m) c.args.out.now form c.put_line.new.out c.put_line.result (fault_of c.in_ok-fits.ensures (length (canonical (message_of m))) (length c.args.out.now) len (omega arith))
    (subst (λ (x : List ℕ). Lies c.args.out.now x c.put_line.new.out c.put_line.result) (sym (canonical_is m form head c.body-body.result.now same c.body-body.ensures)) c.put_line.ensures) in
    record { answer = h.answer; after = h.after }
