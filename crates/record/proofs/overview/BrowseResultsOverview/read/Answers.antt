use Rattle.std.proofs.Common.{ℕ, ◌≤◌, Some, Option, length, codes, sym, subst}
use Rattle.std.proofs.lemmas.Bool.{leb-true}
use Rattle.line.specs.Meanings.{message_of}
use Rattle.record.specs.Records.{texts}
use Rattle.record.specs.Reads.{Put}
use Rattle.record.proofs.Backs.{overview_by_fields, of_kind}
use Rattle.record.proofs.Lying.{first_lies, second_lies}
use Rattle.record.proofs.overview.BrowseResultsOverview.read.Goals as goal

pub returns : goal.returns
returns c =
    let m = message_of c.args.message.now in
    let out = c.args.out.now in
    let middle = c.in_ok-middle.middle in
    let end = c.in_ok-middle.end in
    let put : Put m out c.put_texts.new.out (Some (middle, end)) = subst (λ (ends : Option (ℕ × ℕ)). Put m out c.put_texts.new.out ends) c.in_ok-middle.ensures.ok_part c.put_texts.ensures in
    let room : length (texts m) ≤ length out = leb-true (length (texts m)) (length out) put.0 in
    record {
      answer = sym (overview_by_fields m middle end c.in_ok-lines.lines c.in_ok-total.total (length out) (of_kind (codes "BROWSE_RESULTS_OVERVIEW") 4 m c.in_ok-expect_kind.ensures) (sym c.in_ok-lines.ensures) (sym c.in_ok-total.ensures) put.1 put.2 put.0);
      after = put.3;
      lies = (first_lies m out c.put_texts.new.out middle end put.1 put.2 room put.3, second_lies m out c.put_texts.new.out middle end put.1 put.2 room put.3);
    }
