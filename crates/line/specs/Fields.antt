-- The fields of a message by their index: as they stand in the line, and as they are meant.
use Rattle.std.specs.Prelude.{ℕ, Bool, false, cond, List, [], ◌∷◌, length, Some, None, Ok, Err, Option, Result, nat_le}
use Rattle.escape.specs.Resolving.{written}
use Rattle.escape.specs.Texts.{same_bytes}
use Rattle.line.specs.declared.fault.Fault.{Fault}
use Rattle.line.specs.declared.fault.Fault.TheVariants.{ShortBuffer, NoField}
use Rattle.line.specs.declared.message.Message.{Message}
use Rattle.line.specs.declared.message.Message.TheVariants.{Answer, Event, Command}

abbrev pub body_of : Message → List ℕ
body_of (Answer a m b) = b.now
body_of (Event a b) = b.now
body_of (Command a m b c) = b.now

-- the fields as they stand in the line
abbrev pub raw_fields : Option (List ℕ × List (List ℕ)) → List (List ℕ)
raw_fields None = []
raw_fields (Some f) = f.0 ∷ f.1

-- all parts but the last
abbrev pub before_last : List (List ℕ) → List (List ℕ)
before_last [] = []
before_last (p ∷ []) = []
before_last (p ∷ q ∷ ps) = p ∷ before_last (q ∷ ps)

-- ---- a field written to a buffer
abbrev pub field_answer : ℕ → ℕ → Option (List ℕ) → Result ℕ Fault
field_answer index room None = Err (NoField index)
field_answer index room (Some bs) = cond (nat_le (length bs) room) (Ok (length bs)) (Err ShortBuffer)

abbrev pub field_written : List ℕ → Option (List ℕ) → List ℕ
field_written out None = out
field_written out (Some bs) = written bs out

-- ---- a field compared with a text: it is there, and is the text
abbrev pub is_text : List ℕ → Option (List ℕ) → Bool
is_text text None = false
is_text text (Some f) = same_bytes f text
