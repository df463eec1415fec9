-- The honest player at the far end of the link, as a condition on the history.
use Rattle.std.specs.Prelude.{◌≡◌, ℕ, ◌<◌, true, cond, List, [], ◌∷◌, ◌++◌, length, ◌==◌, slice_index_or}
use Rattle.port.specs.Port.{Meaning}
use Rattle.line.specs.Lines.{Message, Read, meant, faulty}
use Rattle.reader.specs.Cutting.{is_end, lines_read}
use Rattle.life.specs.Codec.{Codec}
use Rattle.life.specs.Answers.{WholeAnswer}
use Rattle.life.specs.Calls.{Line, event_line, empty_line, answer_line, quiet, submitted, dry, handed, settled, reset, arrived, departed, emitted, History, bytes_in, bytes_out, lines, since, Begins}

-- the bytes of a line with its end, and of several lines
abbrev pub line_bytes : Line → List ℕ
line_bytes (event_line l e) = l ++ (e ∷ [])
line_bytes (empty_line e) = e ∷ []
line_bytes (answer_line n l e) = l ++ (e ∷ [])

abbrev pub all_bytes : List Line → List ℕ
all_bytes [] = []
all_bytes (l ∷ ls) = line_bytes l ++ all_bytes ls

-- those of the lines that answer the nth command
abbrev pub answer_to : ℕ → List Line → List (List ℕ)
answer_to n [] = []
answer_to n (event_line l e ∷ ls) = answer_to n ls
answer_to n (empty_line e ∷ ls) = answer_to n ls
answer_to n (answer_line k l e ∷ ls) = cond (k == n) (l ∷ answer_to n ls) (answer_to n ls)

-- what the player has received: the whole lines of the bytes departed since the last reset, each read as a command
abbrev pub commands_read : Codec → History → List Read
commands_read K h = lines_read K.as_command (since bytes_out [] h)

-- What it may emit after the history h: an empty line, an event, or the next line of the answer to a command that it has
-- received. An answer line is readable and has the command's address and number, and with it the lines emitted in answer to the
-- command are still a beginning of a whole answer.
pub data MayEmit (K : Codec) (h : History) : Line → Type 0 where
  may_empty : (e : ℕ) → is_end e ≡ true → MayEmit K h (empty_line e)
  may_event : (l : List ℕ) (e : ℕ) (m : Message) → is_end e ≡ true
      → K.as_answer l ≡ meant m → m.mark ≡ 33 → MayEmit K h (event_line l e)
  may_answer : (n : ℕ) (l : List ℕ) (e : ℕ) (m command : Message) (to_come : List (List ℕ)) → is_end e ≡ true
      → n < length (commands_read K h) → slice_index_or (commands_read K h) n (faulty 0 0) ≡ meant command
      → K.as_answer l ≡ meant m → K.same_address m.address command.address ≡ true → m.mark ≡ command.mark
      → WholeAnswer K command (answer_to n (since lines [] h) ++ (l ∷ to_come))
      → MayEmit K h (answer_line n l e)

-- `first` is the port at the making. It was empty then, each line emitted is one that the player might emit at that time, and the
-- bytes arrived since the last reset are always a beginning of those emitted since.
abbrev pub Honest : Codec → Meaning → History → Type 0
Honest K first [] = (first.incoming ≡ []) × (first.outgoing ≡ [])
Honest K first (quiet ∷ h) = Honest K first h
Honest K first (submitted n m ∷ h) = Honest K first h
Honest K first (dry ∷ h) = Honest K first h
Honest K first (handed k l r ∷ h) = Honest K first h
Honest K first (settled t n o ∷ h) = Honest K first h
Honest K first (reset n ∷ h) = Honest K first h
Honest K first (arrived bs ∷ h) = Begins (since bytes_in [] h ++ bs) (all_bytes (since lines [] h)) × Honest K first h
Honest K first (departed bs ∷ h) = Honest K first h
Honest K first (emitted l ∷ h) = MayEmit K h l × Honest K first h
