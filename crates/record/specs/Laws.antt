-- The way round of whole lines: what is written of a record that fits, behind any status, is read back as that record.
use Rattle.std.specs.Prelude.{◌≡◌, ℕ, ◌≤◌, true, List, None, Ok}
use Rattle.line.specs.Forms.{answer}
use Rattle.line.specs.Lines.{Message, meant, reading}
use Rattle.writer.specs.Canonical.{canonical, sendable}
use Rattle.writer.specs.Laws.{Bytes}
use Rattle.writer.specs.Writing.{with_fields}
use Rattle.record.specs.Records.{play_status}
use Rattle.record.specs.Writes.{status_fields, title_fields, overview_fields, wrong_status, Alone, TitleRead, OverviewRead}
use Rattle.record.specs.declared.play_status.PlayStatus.{PlayStatus}

-- the line of an answer that has its status alone, and behind it the fields of a record, is read as a message of which P holds
abbrev pub LineRead : List (List ℕ) → (Message → Type 0) → Type 0
LineRead fields P =
    (m : Message) → Alone m → sendable (with_fields m fields) ≡ true → Bytes (with_fields m fields).fields
    → (r : Message) × (reading answer (canonical (with_fields m fields)) ≡ meant r) × P r

-- whatever the answer's address, mark and status
pub record WayRound : Type 0 where
  pub status : (s : PlayStatus) → wrong_status s ≡ None → LineRead (status_fields s) (λ r. play_status r ≡ Ok s)
  pub title : (title : List ℕ) → LineRead (title_fields title) (TitleRead title)
  pub overview : (handle title : List ℕ) (lines total : ℕ) → lines ≤ 65535 → total ≤ 65535
      → LineRead (overview_fields handle title lines total) (OverviewRead handle title lines total)
