use Rattle.std.proofs.Common.{Bool, cond, [], ◌∷◌, Some, None, codes, ap}
use Rattle.record.specs.Writes.{title_fields, part, wrong_title}
use Rattle.record.proofs.Backs.{written_fields, if_written, text_there, title_fields_are, title_back}
use Rattle.record.proofs.title_name.TitleName.write.Goals as goal

pub returns-clause-written : goal.returns-clause-written
returns-clause-written c =
    let span = c.args.self.now.title in
    let text = c.args.text.now in
    let there = text_there span text c.of.result c.in_ok-title.title c.in_ok-title.ensures.ok_part c.of.ensures in
    written_fields c.add_all.result (wrong_title span text) (codes "TITLE_NAME" ∷ c.in_ok-title.title.now ∷ []) (title_fields (part span text)) c.args.writer.now c.add_all.new.self
    c.if-not-is_bare.ensures (ap (λ (t : Bool). cond t None (Some 1)) there.0) (title_fields_are c.in_ok-title.title.now (part span text) there.1)
    c.add_all.ensures

pub returns-clause-back : goal.returns-clause-back
returns-clause-back c = if_written c.add_all.result _ (title_back (part c.args.self.now.title c.args.text.now))
