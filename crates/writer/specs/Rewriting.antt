-- A message that was read, written again: its canonical line, or why it is refused.
use Rattle.std.specs.Prelude.{ℕ, cond, List, [], ◌∷◌, ◌++◌, length, drop, Some, None, Ok, Err, Option, Result, ◌==◌}
use Rattle.escape.specs.Tokens.{Token, plain, escape, broken}
use Rattle.escape.specs.Spelling.{spelled}
use Rattle.line.specs.Lines.{Message}
use Rattle.line.specs.declared.fault.Fault.{Fault}
use Rattle.writer.specs.Canonical.{first_formed, canonical}
use Rattle.writer.specs.Writing.{head_fault, line_fault}

-- ---- refusals: a message that was read has its forms, so only its length can be refused
abbrev pub forms_fault : Message → Option Fault
forms_fault m = head_fault m.side m.address m.mark (first_formed m.side m.fields)

abbrev pub first_of_both : Option Fault → Option Fault → Option Fault
first_of_both None g = g
first_of_both (Some f) g = Some f

abbrev pub rewrite_fault : Message → ℕ → Option Fault
rewrite_fault m room = first_of_both (forms_fault m) (line_fault (length (canonical m)) room)

-- ---- the answer and the buffer afterwards
abbrev pub rewrite_answer : List ℕ → Option Fault → Result ℕ Fault
rewrite_answer line None = Ok (length line)
rewrite_answer line (Some f) = Err f

abbrev pub rewritten : List ℕ → List ℕ → Option Fault → List ℕ
rewritten line out None = line ++ drop (length line) out
rewritten line out (Some f) = out

-- ---- a body token by token: a colon outside an escape ends a field, and each other byte is spelled anew
abbrev pub respelt : List Token → List ℕ
respelt [] = []
respelt (plain b ∷ ts) = cond (b == 58) (58 ∷ []) (spelled b) ++ respelt ts
respelt (escape e b ∷ ts) = spelled b ++ respelt ts
respelt (broken rest ∷ ts) = []
