-- The three records, as they are written behind the status of an answer.
use Rattle.std.specs.Prelude.{◌≡◌, ℕ, ◌-◌, ◌≤◌, Bool, false, cond, List, [], ◌∷◌, ◌++◌, length, take, drop, Some, None, Ok, codes, Option, Result, nat_le}
use Rattle.line.specs.Forms.{answer}
use Rattle.line.specs.Lines.{Message}
use Rattle.line.specs.declared.fault.Fault.{Fault}
use Rattle.line.specs.declared.fault.Fault.TheVariants.{RecordForm}
use Rattle.writer.specs.Writing.{Opened, Called, with_fields, all_fault}
use Rattle.writer.specs.declared.page.Writer.{Writer}
use Rattle.numeral.specs.Numbers.{in_digits, in_count}
use Rattle.record.specs.Records.{field_of, texts, play_status, title_name, overview}
use Rattle.record.specs.declared.mode.PlayMode.{PlayMode}
use Rattle.record.specs.declared.mode.PlayMode.TheVariants.{NothingPlaying, Paused, Playing, ForwardScan, ReverseScan}
use Rattle.record.specs.declared.overview.BrowseResultsOverview.{BrowseResultsOverview}
use Rattle.record.specs.declared.play_status.PlayStatus.{PlayStatus}
use Rattle.record.specs.declared.span.Span.{Span}

-- ---- fields
abbrev pub mode_number : PlayMode → ℕ
mode_number NothingPlaying = 0
mode_number Paused = 1
mode_number Playing = 2
mode_number ForwardScan = 4
mode_number ReverseScan = 6

-- the name, and the fields behind it
unfoldable pub status_fields : PlayStatus → List (List ℕ)
status_fields s =
    codes "PLAY_STATUS" ∷ in_digits 1 (mode_number s.mode) ∷ in_digits 1 s.speed
    ∷ in_digits 2 s.title_number ∷ in_digits 5 s.title_length ∷ in_digits 5 s.title_location
    ∷ in_digits 3 s.chapter_number ∷ in_digits 5 s.chapter_length ∷ in_digits 5 s.chapter_location ∷ []

unfoldable pub title_fields : List ℕ → List (List ℕ)
title_fields title = codes "TITLE_NAME" ∷ title ∷ []

unfoldable pub overview_fields : List ℕ → List ℕ → ℕ → ℕ → List (List ℕ)
overview_fields handle title lines total = codes "BROWSE_RESULTS_OVERVIEW" ∷ handle ∷ title ∷ in_count lines ∷ in_count total ∷ []

-- ---- refusals
-- the first field whose value its digits cannot hold
abbrev pub wrong_status : PlayStatus → Option ℕ
wrong_status s =
    cond (nat_le s.speed 3)
    (cond (nat_le s.title_number 99)
    (cond (nat_le s.title_length 99999)
    (cond (nat_le s.title_location 99999)
    (cond (nat_le s.chapter_number 999)
    (cond (nat_le s.chapter_length 99999)
    (cond (nat_le s.chapter_location 99999) None
    (Some 8)) (Some 7)) (Some 6)) (Some 5)) (Some 4)) (Some 3)) (Some 2)

abbrev pub unless_wrong : Option ℕ → Option Fault → Option Fault
unless_wrong None later = later
unless_wrong (Some place) later = Some (RecordForm place)

-- a record stands directly behind a status, its values fit, and there is room for its fields
abbrev pub write_fault : Bool → Option ℕ → ℕ → List (List ℕ) → ℕ → Option Fault
write_fault bare wrong n fields room = cond bare (unless_wrong wrong (all_fault n fields room)) (Some (RecordForm 0))

-- ---- texts, which lie in a buffer of the caller's
abbrev pub within : Span → List ℕ → Bool
within s text = cond (nat_le s.start s.end) (nat_le s.end (length text)) false

unfoldable pub part : Span → List ℕ → List ℕ
part s text = take (s.end - s.start) (drop s.start text)

-- the first text that does not lie in its buffer
abbrev pub wrong_title : Span → List ℕ → Option ℕ
wrong_title title text = cond (within title text) None (Some 1)

abbrev pub wrong_texts : Span → Span → List ℕ → Option ℕ
wrong_texts handle title text = cond (within handle text) (cond (within title text) None (Some 2)) (Some 1)

-- the fields of an overview whose handle and title lie in the buffer
abbrev pub overview_fields_in : BrowseResultsOverview → List ℕ → List (List ℕ)
overview_fields_in o text = overview_fields (part o.handle text) (part o.title text) o.lines o.total

-- ---- what a writer holds afterwards: the line that was open has the fields too
abbrev pub Adds : List (List ℕ) → Writer → Writer → Type 0
Adds fields before after = (was : List ℕ) (m : Message) → Opened was m before.out.now before.len → Opened was (with_fields m fields) after.out.now after.len

-- what a call answers that writes a record, and what the writer holds afterwards
abbrev pub Written : Option ℕ → List (List ℕ) → Writer → Writer → Result (Unit {0}) Fault → Type 0
Written wrong fields before after result = Called before after result (write_fault before.bare wrong before.len fields (length before.out.now)) false (Adds fields before after)

-- ---- the way round: what was written behind any answer's status is read back
pub record Alone (m : Message) : Type 0 where
  pub side : m.side ≡ answer
  pub status : length m.fields ≡ 1

abbrev pub StatusBack : PlayStatus → Type 0
StatusBack s = (m : Message) → Alone m → play_status (with_fields m (status_fields s)) ≡ Ok s

-- in a buffer with room for it, at whose front it then lies
pub record TitleRead (title : List ℕ) (m : Message) : Type 0 where
  pub text : field_of m 1 ≡ title
  pub is : (room : ℕ) → length title ≤ room → title_name m room ≡ Ok (record { title = record { start = 0; end = length title } })

abbrev pub TitleBack : List ℕ → Type 0
TitleBack title = (m : Message) → Alone m → TitleRead title (with_fields m (title_fields title))

pub record OverviewRead (handle title : List ℕ) (lines total : ℕ) (m : Message) : Type 0 where
  pub text : texts m ≡ handle ++ title
  pub is : (room : ℕ) → length (handle ++ title) ≤ room → overview m room ≡ Ok (record {
    handle = record { start = 0; end = length handle };
    title = record { start = length handle; end = length (handle ++ title) };
    lines = lines;
    total = total;
  })

abbrev pub OverviewBack : List ℕ → List ℕ → ℕ → ℕ → Type 0
OverviewBack handle title lines total = (m : Message) → Alone m → OverviewRead handle title lines total (with_fields m (overview_fields handle title lines total))

-- of an overview whose handle and title lie in the buffer
abbrev pub OverviewBackIn : BrowseResultsOverview → List ℕ → Type 0
OverviewBackIn o text = OverviewBack (part o.handle text) (part o.title text) o.lines o.total
