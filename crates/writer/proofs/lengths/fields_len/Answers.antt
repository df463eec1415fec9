use Rattle.std.proofs.Common.{ℕ, ◌+◌, ◌<◌, List, [], length, arith, rules, Bor}
use Rattle.writer.specs.Canonical.{body_text}
use Rattle.writer.specs.Writing.{behind_all}
use Rattle.writer.proofs.Fields.{length_more, no_longer_than_all}
use Rattle.writer.proofs.lengths.fields_len.Goals as goal

-- what is read past the end
none : Bor (List ℕ)
none = record { ref_ptr = (0, 0); now = [] }

pub returns-in_err-field_len : goal.returns-in_err-field_len
unfolding none
returns-in_err-field_len c =
    let refs = c.args.fields.now in
    let i = c.loop-field.field-index in
    let long : 1024 < length (body_text (behind_all refs)) = omega (arith, c.in_err-field_len.ensures, length_more refs i none c.loop-field-test.true, no_longer_than_all refs (i + 1)) in
    search rules

pub returns-in_err-n : goal.returns-in_err-n
unfolding none
returns-in_err-n c =
    let refs = c.args.fields.now in
    let i = c.loop-field.field-index in
    let long : 1024 < length (body_text (behind_all refs)) = omega (arith, c.in_err-n.ensures, c.in_ok-field_len.ensures, length_more refs i none c.loop-field-test.true, no_longer_than_all refs (i + 1)) in
    search rules

pub loop-field-preserved : goal.loop-field-preserved
unfolding none
loop-field-preserved c = omega (arith, c.in_ok-n.ensures, c.in_ok-field_len.ensures, length_more c.args.fields.now c.loop-field.field-index none c.loop-field-test.true)
