-- Which messages are a BROWSE command, an answer of status 000, an overview and a result line. The fields of a message have their
-- escapes resolved; of an answer the first is the status and the second the name.
use Rattle.std.specs.Prelude.{ℕ, Bool, true, false, cond, List, Some, None, codes, Option}
use Rattle.std.specs.List.{slice_get}
use Rattle.numeral.specs.Numbers.{counted}
use Rattle.line.specs.Forms.{Side, command, answer}
use Rattle.line.specs.Lines.{Message}
use Rattle.line.specs.Fields.{is_text}

-- a number: 1 to 5 digits, at most 65,535; leading zeros are allowed
abbrev pub number : List ℕ → Option ℕ
number = counted

-- ---- messages
abbrev pub is_command : Side → Bool
is_command command = true
is_command answer = false

-- the field is there, and is a number
abbrev pub number_in : Option (List ℕ) → Option ℕ
number_in None = None
number_in (Some f) = number f

-- a command named BROWSE
abbrev pub is_browse : Message → Bool
is_browse m = cond (is_command m.side) (is_text (codes "BROWSE") (slice_get m.fields 0)) false

-- an answer of status 000
abbrev pub okay : Message → Bool
okay m = is_text (codes "000") (slice_get m.fields 0)

-- the name behind the status, where at least three fields follow it
abbrev pub if_there : Option (List ℕ) → Option (List ℕ) → Option (List ℕ)
if_there None name = None
if_there (Some third) name = name

abbrev pub name_in : List (List ℕ) → Option (List ℕ)
name_in fields = if_there (slice_get fields 4) (slice_get fields 1)

-- an overview: the third field after the name says how many result lines follow
abbrev pub overview : Message → Option ℕ
overview m = cond (is_text (codes "BROWSE_RESULTS_OVERVIEW") (name_in m.fields)) (number_in (slice_get m.fields 4)) None

-- a result line: the first two fields after the name are numbers, of which the first counts the lines from 1
abbrev pub first_of_both : Option ℕ → Option ℕ → Option ℕ
first_of_both first None = None
first_of_both first (Some second) = first

abbrev pub result : Message → Option ℕ
result m = cond (is_text (codes "BROWSE_RESULT") (name_in m.fields)) (first_of_both (number_in (slice_get m.fields 2)) (number_in (slice_get m.fields 3))) None
