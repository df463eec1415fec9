use Rattle.std.proofs.Common.{Bool, cond, Some, None, sym, ap, ◌∙◌}
use Rattle.numeral.specs.Numbers.{counted}
use Rattle.record.specs.Writes.{within, part, wrong_texts, overview_fields_in}
use Rattle.record.proofs.Backs.{written_fields, if_written, text_there, overview_fields_are, overview_back}
use Rattle.record.proofs.overview.BrowseResultsOverview.write.Goals as goal

pub returns-clause-written : goal.returns-clause-written
returns-clause-written c =
    let s = c.args.self.now in
    let text = c.args.text.now in
    let handle = c.in_ok-ok_or.field-0 in
    let title = c.in_ok-ok_or-2.field-0 in
    let h = text_there s.handle text c.of.result handle c.in_ok-ok_or.ensures.ok_part c.of.ensures in
    let t = text_there s.title text c.of-2.result title c.in_ok-ok_or-2.ensures.ok_part c.of-2.ensures in
    written_fields c.add_all.result (wrong_texts s.handle s.title text) _ (overview_fields_in s text) c.args.writer.now c.add_all.new.self
    c.if-not-is_bare.ensures
    (ap (λ (b : Bool). cond b None (Some 2)) t.0 ∙ ap (λ (b : Bool). cond b (cond (within s.title text) None (Some 2)) (Some 1)) h.0)
    (overview_fields_are handle.now title.now _ _ (part s.handle text) (part s.title text) s.lines s.total h.1 t.1 c.count_digits.ensures.digits c.count_digits-2.ensures.digits)
    c.add_all.ensures

pub returns-clause-back : goal.returns-clause-back
returns-clause-back c =
    let o = c.args.self.now in
    if_written c.add_all.result _ (overview_back (part o.handle c.args.text.now) (part o.title c.args.text.now) o.lines o.total
    (ap counted (sym c.count_digits.ensures.digits) ∙ c.count_digits.ensures.back) (ap counted (sym c.count_digits-2.ensures.digits) ∙ c.count_digits-2.ensures.back))
