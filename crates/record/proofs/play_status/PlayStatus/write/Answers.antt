use Rattle.std.proofs.Common.{ap, ◌∙◌}
use Rattle.numeral.specs.Numbers.{in_digits}
use Rattle.record.specs.Writes.{wrong_status, status_fields}
use Rattle.record.proofs.Backs.{written_fields, if_written, status_back, none_wrong, status_fields_are}
use Rattle.record.proofs.play_status.PlayStatus.write.Goals as goal

pub returns-clause-written : goal.returns-clause-written
returns-clause-written c =
    let s = c.args.self.now in
    written_fields c.add_all.result (wrong_status s) _ (status_fields s) c.args.writer.now c.add_all.new.self
    c.if-not-is_bare.ensures (none_wrong (wrong_status s) c.in_ok-check_fields.ensures)
    (status_fields_are s _ _ _ _ _ _ _ _ (c.digits.ensures ∙ ap (in_digits 1) c.from.ensures) (c.digits-2.ensures ∙ ap (in_digits 1) c.from-2.ensures)
    (c.digits-3.ensures ∙ ap (in_digits 2) c.from-3.ensures) c.digits-4.ensures c.digits-5.ensures
    (c.digits-6.ensures ∙ ap (in_digits 3) c.from-4.ensures) c.digits-7.ensures c.digits-8.ensures)
    c.add_all.ensures

pub returns-clause-back : goal.returns-clause-back
returns-clause-back c = if_written c.add_all.result _ (status_back c.args.self.now (none_wrong (wrong_status c.args.self.now) c.in_ok-check_fields.ensures))
