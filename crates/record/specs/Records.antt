-- The three records, as they are read from a message.
use Rattle.std.specs.Prelude.{ℕ, ◌+◌, Bool, false, cond, List, [], ◌++◌, length, Some, None, Ok, Err, codes, Option, Result, ◌==◌, nat_le, slice_index_or}
use Rattle.std.specs.Option.{ok_or}
use Rattle.escape.specs.Resolving.{written}
use Rattle.escape.specs.Texts.{same_bytes}
use Rattle.line.specs.Lines.{Message}
use Rattle.line.specs.declared.fault.Fault.{Fault}
use Rattle.line.specs.declared.fault.Fault.TheVariants.{ShortBuffer, RecordForm}
use Rattle.writer.specs.Writing.{is_answer}
use Rattle.numeral.specs.Numbers.{numeral, at_most, counted}
use Rattle.record.specs.declared.mode.PlayMode.{PlayMode}
use Rattle.record.specs.declared.mode.PlayMode.TheVariants.{NothingPlaying, Paused, Playing, ForwardScan, ReverseScan}
use Rattle.record.specs.declared.mode.UnknownMode.{UnknownMode}
use Rattle.record.specs.declared.play_status.PlayStatus.{PlayStatus}
use Rattle.record.specs.declared.title_name.TitleName.{TitleName}
use Rattle.record.specs.declared.overview.BrowseResultsOverview.{BrowseResultsOverview}

-- ---- the kind of a message
-- the field of a record, counted from 1: its name is at 0, behind the status
unfoldable pub field_of : Message → ℕ → List ℕ
field_of m place = slice_index_or m.fields (place + 1) []

-- an answer, event or notice with a status, that name, and so many fields behind it
unfoldable pub is_kind : List ℕ → ℕ → Message → Bool
is_kind name count m = cond (is_answer m.side) (cond (same_bytes (field_of m 0) name) (length m.fields == count + 2) false) false

-- ---- a record, field by field, or the place of the first wrong field
abbrev pub else_wrong : {X : Type 0} → ℕ → Option X → Result X Fault
else_wrong place None = Err (RecordForm place)
else_wrong place (Some x) = Ok x

abbrev pub then : {X Y : Type 0} → Result X Fault → (X → Result Y Fault) → Result Y Fault
then (Err f) later = Err f
then (Ok x) later = later x

abbrev pub if_kind : {X : Type 0} → List ℕ → ℕ → Message → Result X Fault → Result X Fault
if_kind name count m later = cond (is_kind name count m) later (Err (RecordForm 0))

-- ---- PLAY_STATUS
abbrev pub mode_numbered : ℕ → Option PlayMode
mode_numbered n =
    cond (n == 0) (Some NothingPlaying)
    (cond (n == 1) (Some Paused)
    (cond (n == 2) (Some Playing)
    (cond (n == 4) (Some ForwardScan)
    (cond (n == 6) (Some ReverseScan) None))))

-- the mode, or the number that none has
abbrev pub mode_read : ℕ → Result PlayMode UnknownMode
mode_read n = ok_or (mode_numbered n) (record { 0 = n })

abbrev pub mode_of : Option ℕ → Option PlayMode
mode_of None = None
mode_of (Some n) = mode_numbered n

unfoldable pub number_in : Message → ℕ → ℕ → Result ℕ Fault
number_in m place width = else_wrong place (numeral width (field_of m place))

unfoldable pub mode_in : Message → Result PlayMode Fault
mode_in m = else_wrong 1 (mode_of (numeral 1 (field_of m 1)))

unfoldable pub speed_in : Message → Result ℕ Fault
speed_in m = else_wrong 2 (at_most 3 (numeral 1 (field_of m 2)))

abbrev pub play_status : Message → Result PlayStatus Fault
play_status m =
    if_kind (codes "PLAY_STATUS") 8 m
    (then (mode_in m) (λ mode.
    then (speed_in m) (λ speed.
    then (number_in m 3 2) (λ number.
    then (number_in m 4 5) (λ length.
    then (number_in m 5 5) (λ location.
    then (number_in m 6 3) (λ chapter.
    then (number_in m 7 5) (λ chapter-length.
    then (number_in m 8 5) (λ chapter-location.
    Ok (record {
      mode = mode;
      speed = speed;
      title_number = number;
      title_length = length;
      title_location = location;
      chapter_number = chapter;
      chapter_length = chapter-length;
      chapter_location = chapter-location;
    }))))))))))

-- ---- TITLE_NAME
abbrev pub if_room : {X : Type 0} → List ℕ → ℕ → X → Result X Fault
if_room text room x = cond (nat_le (length text) room) (Ok x) (Err ShortBuffer)

-- the title is at the front of the caller's buffer
abbrev pub title_name : Message → ℕ → Result TitleName Fault
title_name m room =
    if_kind (codes "TITLE_NAME") 1 m
    (if_room (field_of m 1) room (record { title = record { start = 0; end = length (field_of m 1) } }))

-- ---- BROWSE_RESULTS_OVERVIEW
unfoldable pub count_in : Message → ℕ → Result ℕ Fault
count_in m place = else_wrong place (counted (field_of m place))

-- handle and title
unfoldable pub texts : Message → List ℕ
texts m = field_of m 1 ++ field_of m 2

abbrev pub overview : Message → ℕ → Result BrowseResultsOverview Fault
overview m room =
    if_kind (codes "BROWSE_RESULTS_OVERVIEW") 4 m
    (then (count_in m 3) (λ lines.
    then (count_in m 4) (λ total.
    if_room (texts m) room (record {
      handle = record { start = 0; end = length (field_of m 1) };
      title = record { start = length (field_of m 1); end = length (texts m) };
      lines = lines;
      total = total;
    }))))

-- ---- the caller's buffer afterwards: the text at its front, if there is a record
abbrev pub if_read : {X : Type 0} → Result X Fault → List ℕ → List ℕ → List ℕ
if_read (Ok x) text out = written text out
if_read (Err f) text out = out
