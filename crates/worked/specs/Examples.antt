-- Worked lines: what each is read as, by the same definitions that the contracts of the code cite.
use Rattle.std.specs.Prelude.{◌≡◌, ℕ, true, List, [], ◌∷◌, map, length, Some, None, Ok, Err, codes, Result}
use Rattle.line.specs.Forms.{Side, command, answer}
use Rattle.line.specs.Lines.{Read, meant, faulty, reading}
use Rattle.line.specs.declared.fault.Fault.{Fault}
use Rattle.line.specs.declared.fault.Fault.TheVariants.{RecordForm}
use Rattle.writer.specs.Canonical.{canonical}
use Rattle.record.specs.Records.{field_of, title_name}
use Rattle.record.specs.declared.title_name.TitleName.{TitleName}
use Rattle.life.specs.Answers.{start}
use Rattle.life.specs.Calls.{Kind, fault, more, last}
use Rattle.life.specs.Link.{Slot, is_open}
use Rattle.numbers.specs.Slots.{tells}

-- a message with no zone, by its device, mark and fields
abbrev plain : Side → List ℕ → ℕ → List (List ℕ) → Read
plain side device mark fields = meant (record { side = side; address = record { device = device; zone = None }; mark = mark; fields = fields })

pub record Example : Type 0 where
  pub side : Side
  pub line : List ℕ
  pub is : Read

abbrev example : Side → List ℕ → Read → Example
example side line is = record { side = side; line = line; is = is }

abbrev pub lines_read : List Example
lines_read =
    example command (codes "01/4/~AUSE:/30") (faulty 8 12)
    ∷ example command (codes "01/4/PAUSE:/30") (plain command (codes "01") 52 (codes "PAUSE" ∷ []))
    ∷ example answer (codes "#00000000144B/1/000:/30") (plain answer (codes "#00000000144B") 49 (codes "000" ∷ []))
    ∷ example answer (codes "#0000000144B/1/000:/30") (faulty 5 0)
    ∷ example answer (codes "00/1/000:/88") (faulty 5 0)
    ∷ example answer (codes "01/1/000:/9") (faulty 7 10)
    ∷ example answer (codes "01/1/000:") (faulty 4 9)
    ∷ example answer (codes "01/!/000:TITLE_NAME:A\\:B:/40") (plain answer (codes "01") 33 (codes "000" ∷ codes "TITLE_NAME" ∷ codes "A:B" ∷ []))
    ∷ []

-- ---- canonical lines
-- the canonical line of what a line is read as
abbrev pub canonical_of : Read → List ℕ
canonical_of (meant m) = canonical m
canonical_of (faulty number place) = []

abbrev pub lines_written : List (List ℕ × List ℕ)
lines_written = (codes "01/1/DOWN:", codes "01/1/DOWN:/57") ∷ []

-- ---- the answer to a BROWSE with address 01.01 and number 3
abbrev pub open_browse : Slot
open_browse = is_open (record { address = record { device = codes "01"; zone = Some 1 }; browse = true; place = start })

-- the kind that is told of a line, and how the number stands afterwards
abbrev pub told_by : Slot → Read → Kind × Slot
told_by slot (meant m) = tells 3 slot m
told_by slot (faulty number place) = (fault, slot)

-- the kinds that are told of the lines, one after the other
abbrev pub told_of : Slot → List (List ℕ) → List Kind
told_of slot [] = []
told_of slot (l ∷ ls) = (told_by slot (reading answer l)).0 ∷ told_of (told_by slot (reading answer l)).1 ls

abbrev pub listing : List (List ℕ)
listing =
    codes "01.01/3/000:BROWSE_RESULTS_OVERVIEW:7:Acts:2:9:/30"
    ∷ codes "01.01/3/000:BROWSE_RESULT:1:4:Alpha:/93"
    ∷ codes "01.01/3/000:BROWSE_RESULT:2:5:Beta:/89"
    ∷ []

-- ---- records
-- the record of a title in what a line is read as, with a buffer of 1,024 bytes, and the text that then stands at its front
abbrev pub title_of : Read → Result TitleName Fault × List ℕ
title_of (meant m) = (title_name m 1024, field_of m 1)
title_of (faulty number place) = (Err (RecordForm 0), [])

abbrev pub titles_read : List (List ℕ × List ℕ)
titles_read = (codes "01/!/000:TITLE_NAME:A\\:B:/40", codes "A:B") ∷ []

-- the title is all that stands at the buffer's front
abbrev pub titled : List ℕ → Result TitleName Fault × List ℕ
titled text = (Ok (record { title = record { start = 0; end = length text } }), text)

-- each line is read as it should be, has the canonical line that it should have, is told as it should be, and has the title that it should have
abbrev pub Worked : Type 0
Worked =
    (map (λ (e : Example). reading e.side e.line) lines_read ≡ map (λ (e : Example). e.is) lines_read)
    × (map (λ (e : List ℕ × List ℕ). canonical_of (reading command e.0)) lines_written ≡ map (λ (e : List ℕ × List ℕ). e.1) lines_written)
    × (told_of open_browse listing ≡ more 3 ∷ more 3 ∷ last 3 ∷ [])
    × (map (λ (e : List ℕ × List ℕ). title_of (reading answer e.0)) titles_read ≡ map (λ (e : List ℕ × List ℕ). titled e.1) titles_read)
