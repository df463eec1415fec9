-- The row for a line: its first byte says what follows it, a command or an answer.
use Rattle.std.specs.Prelude.{ℕ, cond, List, [], ◌∷◌, length, Some, None, Option, ◌==◌, nat_le}
use Rattle.line.specs.Forms.{Side, command, answer}
use Rattle.line.specs.Lines.{Message, Read, meant, faulty, reading}
use Rattle.writer.specs.Canonical.{canonical}

pub data Kind : Type 0 where
  commands : Kind
  answers : Kind
  event : Kind
  notice : Kind

pub data Row : Type 0 where
  -- the first byte is neither > nor <
  unknown : Row
  -- number and place
  fault : ℕ → ℕ → Row
  -- the canonical line would pass 1,024 bytes
  unsendable : Row
  -- the kind and the canonical line
  told : Kind → List ℕ → Row

abbrev pub side_by : ℕ → Option Side
side_by b = cond (b == 62) (Some command) (cond (b == 60) (Some answer) None)

-- an answer with the mark ! is an event, and with ? a notice
abbrev pub answer_kind : ℕ → Kind
answer_kind mark = cond (mark == 33) event (cond (mark == 63) notice answers)

abbrev pub side_kind : Side → ℕ → Kind
side_kind command mark = commands
side_kind answer mark = answer_kind mark

abbrev pub kind_of : Message → Kind
kind_of m = side_kind m.side m.mark

abbrev pub row_of_read : Read → Row
row_of_read (meant m) = cond (nat_le (length (canonical m)) 1024) (told (kind_of m) (canonical m)) unsendable
row_of_read (faulty number place) = fault number place

abbrev pub row_by : Option Side → List ℕ → Row
row_by None line = unknown
row_by (Some side) line = row_of_read (reading side line)

abbrev pub row_for : List ℕ → Row
row_for [] = unknown
row_for (b ∷ line) = row_by (side_by b) line
