-- The way round of whole lines, from that of messages and that of fields.
use Rattle.std.proofs.Common.{◌≡◌, ℕ, List, sym, ap, ◌∙◌}
use Rattle.line.specs.Forms.{Side, answer}
use Rattle.line.specs.Lines.{Message, reading}
use Rattle.writer.specs.Canonical.{canonical}
use Rattle.writer.specs.Writing.{with_fields}
use Rattle.writer.proofs.Backs.{reads_back}
use Rattle.record.specs.Laws.{LineRead, WayRound}
use Rattle.record.specs.Writes.{Alone}
use Rattle.record.proofs.Backs.{count_back, status_back, title_back, overview_back}

an_answer : (m : Message) (fields : List (List ℕ)) → Alone m → (with_fields m fields).side ≡ answer
unfolding with_fields
an_answer m fields a = a.side

line_read : (fields : List (List ℕ)) (P : Message → Type 0) → ((m : Message) → Alone m → P (with_fields m fields)) → LineRead fields P
line_read fields P holds m a s b = (
  with_fields m fields,
  ap (λ (side : Side). reading side (canonical (with_fields m fields))) (sym (an_answer m fields a)) ∙ reads_back (with_fields m fields) s b,
  holds m a,
)

pub way_round : WayRound
way_round = record {
  status = λ s fits. line_read _ _ (status_back s (sym fits));
  title = λ title. line_read _ _ (title_back title);
  overview = λ handle title lines total l t. line_read _ _ (overview_back handle title lines total (count_back lines l) (count_back total t));
}
