-- What is promised of a link for its whole life, as three statements about its history.
use Rattle.std.specs.Prelude.{◌≡◌, ℕ, ◌+◌, ◌<◌, ◌≤◌, Bool, true, false, cond, List, [], ◌∷◌, ◌++◌, map, length, take, ◌==◌, slice_index_or}
use Rattle.port.specs.Port.{Meaning}
use Rattle.line.specs.Lines.{Message, Read, meant, faulty}
use Rattle.reader.specs.Cutting.{lines_read}
use Rattle.life.specs.Codec.{Codec, as_shown}
use Rattle.life.specs.Answers.{WholeAnswer}
use Rattle.life.specs.Calls.{Kind, fault, event, notice, stray, misplaced, more, last, late, late_last, Outcome, answered, given_up, lost, foreign, Line, event_line, empty_line, answer_line, quiet, submitted, dry, handed, settled, reset, arrived, departed, emitted, History, bytes_in, shown, accepted, outcomes, lines, messages, ever, since, before, Begins}
use Rattle.life.specs.Player.{answer_to, commands_read, Honest}

-- ==== 1. In order: what pump hands out is what arrived.
-- where the newest entry is a dry pump, all the lines of what arrived since the last reset have been handed out
abbrev pub AllAtDry : Codec → Meaning → History → Type 0
AllAtDry K first [] = Unit {0}
AllAtDry K first (quiet ∷ h) = Unit {0}
AllAtDry K first (submitted n m ∷ h) = Unit {0}
AllAtDry K first (dry ∷ h) = since shown [] h ≡ lines_read (as_shown K) (since bytes_in first.incoming h)
AllAtDry K first (handed k l r ∷ h) = Unit {0}
AllAtDry K first (settled t n o ∷ h) = Unit {0}
AllAtDry K first (reset n ∷ h) = Unit {0}
AllAtDry K first (arrived bs ∷ h) = Unit {0}
AllAtDry K first (departed bs ∷ h) = Unit {0}
AllAtDry K first (emitted l ∷ h) = Unit {0}

-- the kinds that what a line was read as allows; a number that is told is the line's own mark
pub data Fits : Kind → Read → Type 0 where
  of_fault : (n p : ℕ) → Fits fault (faulty n p)
  of_event : (m : Message) → m.mark ≡ 33 → Fits event (meant m)
  of_notice : (m : Message) → m.mark ≡ 63 → Fits notice (meant m)
  of_stray : (m : Message) (n : ℕ) → n < 10 → m.mark ≡ 48 + n → Fits stray (meant m)
  of_misplaced : (m : Message) (n : ℕ) → n < 10 → m.mark ≡ 48 + n → Fits misplaced (meant m)
  of_more : (m : Message) (n : ℕ) → n < 10 → m.mark ≡ 48 + n → Fits (more n) (meant m)
  of_last : (m : Message) (n : ℕ) → n < 10 → m.mark ≡ 48 + n → Fits (last n) (meant m)
  of_late : (m : Message) (n : ℕ) → n < 10 → m.mark ≡ 48 + n → Fits (late n) (meant m)
  of_late_last : (m : Message) (n : ℕ) → n < 10 → m.mark ≡ 48 + n → Fits (late_last n) (meant m)

-- so every line ever handed out
abbrev pub KindsFit : History → Type 0
KindsFit [] = Unit {0}
KindsFit (quiet ∷ h) = KindsFit h
KindsFit (submitted n m ∷ h) = KindsFit h
KindsFit (dry ∷ h) = KindsFit h
KindsFit (handed k l r ∷ h) = Fits k r × KindsFit h
KindsFit (settled t n o ∷ h) = KindsFit h
KindsFit (reset n ∷ h) = KindsFit h
KindsFit (arrived bs ∷ h) = KindsFit h
KindsFit (departed bs ∷ h) = KindsFit h
KindsFit (emitted l ∷ h) = KindsFit h

-- `first` is the port at the making
pub record InOrder (K : Codec) (first : Meaning) (h : History) : Type 0 where
  -- messages and faults handed out since the last reset are a beginning of the reading of all bytes arrived since
  pub beginning : Begins (since shown [] h) (lines_read (as_shown K) (since bytes_in first.incoming h))
  -- and at a dry pump all of it
  pub at_dry : AllAtDry K first h
  pub kinds : KindsFit h

-- ==== 2. Counted: no ticket and no number is lost or given twice.
-- how often n stands in the list
abbrev pub times : ℕ → List ℕ → ℕ
times n [] = 0
times n (x ∷ xs) = cond (x == n) (times n xs + 1) (times n xs)

-- the list without the first n in it
abbrev pub remove : ℕ → List ℕ → List ℕ
remove n [] = []
remove n (x ∷ xs) = cond (x == n) xs (x ∷ remove n xs)

-- the numbers of the tickets out: accepted by this link, and not yet settled on it
abbrev pub out : ℕ → History → List ℕ
out link [] = []
out link (quiet ∷ h) = out link h
out link (submitted n m ∷ h) = n ∷ out link h
out link (dry ∷ h) = out link h
out link (handed k l r ∷ h) = out link h
out link (settled t n o ∷ h) = cond (t == link) (remove n (out link h)) (out link h)
out link (reset n ∷ h) = out link h
out link (arrived bs ∷ h) = out link h
out link (departed bs ∷ h) = out link h
out link (emitted l ∷ h) = out link h

-- the numbers given up, after a line was told: late last ends one
abbrev pub late_after_line : Kind → List ℕ → List ℕ
late_after_line fault ns = ns
late_after_line event ns = ns
late_after_line notice ns = ns
late_after_line stray ns = ns
late_after_line misplaced ns = ns
late_after_line (more n) ns = ns
late_after_line (last n) ns = ns
late_after_line (late n) ns = ns
late_after_line (late_last n) ns = remove n ns

-- the numbers given up, after a ticket of the number n was settled
abbrev pub late_after_settle : Outcome → ℕ → List ℕ → List ℕ
late_after_settle answered n ns = ns
late_after_settle given_up n ns = n ∷ ns
late_after_settle lost n ns = ns
late_after_settle foreign n ns = ns

-- the numbers of the commands given up, not reset and not yet told late last
abbrev pub waiting_late : History → List ℕ
waiting_late [] = []
waiting_late (quiet ∷ h) = waiting_late h
waiting_late (submitted n m ∷ h) = waiting_late h
waiting_late (dry ∷ h) = waiting_late h
waiting_late (handed k l r ∷ h) = late_after_line k (waiting_late h)
waiting_late (settled t n o ∷ h) = late_after_settle o n (waiting_late h)
waiting_late (reset n ∷ h) = []
waiting_late (arrived bs ∷ h) = waiting_late h
waiting_late (departed bs ∷ h) = waiting_late h
waiting_late (emitted l ∷ h) = waiting_late h

-- how many of the answers of settle are answered, given up or lost
abbrev pub one_if_own : Outcome → ℕ
one_if_own answered = 1
one_if_own given_up = 1
one_if_own lost = 1
one_if_own foreign = 0

abbrev pub settled_own : List Outcome → ℕ
settled_own [] = 0
settled_own (o ∷ os) = one_if_own o + settled_own os

-- `Held` says which numbers of the link are open, answered or lost
pub record Counted (link : ℕ) (Held : ℕ → Type 0) (h : History) : Type 0 where
  -- accepted submits are the tickets settled as answered, given up or lost, and those out
  pub adds_up : length (ever accepted h) ≡ settled_own (ever outcomes h) + length (out link h)
  -- the numbers of the tickets out are just the open, answered and lost ones, and no two tickets out have the same
  pub held_is_out : (n : ℕ) → Held n → times n (out link h) ≡ 1
  pub out_is_held : (n : ℕ) → 0 < times n (out link h) → Held n
  pub out_once : (n : ℕ) → times n (out link h) ≤ 1
  -- the number of a command given up is no number of a ticket out
  pub late_is_not_out : (n : ℕ) → 0 < times n (waiting_late h) → times n (out link h) ≡ 0

-- ==== 3. Matched: each line of an answer goes to the ticket of its command.
-- A ticket is known by its place k among all the submits ever accepted, from 0.
-- the kth ticket is the one that last got the number n
abbrev pub last_got : ℕ → ℕ → History → Bool
last_got n k [] = false
last_got n k (quiet ∷ h) = last_got n k h
last_got n k (submitted x m ∷ h) = cond (x == n) (k == length (ever accepted h)) (last_got n k h)
last_got n k (dry ∷ h) = last_got n k h
last_got n k (handed y l r ∷ h) = last_got n k h
last_got n k (settled t y o ∷ h) = last_got n k h
last_got n k (reset y ∷ h) = last_got n k h
last_got n k (arrived bs ∷ h) = last_got n k h
last_got n k (departed bs ∷ h) = last_got n k h
last_got n k (emitted l ∷ h) = last_got n k h

-- a line told as the kind, after the history h, is handed to the kth ticket
abbrev pub goes_to : Kind → ℕ → History → Bool
goes_to fault k h = false
goes_to event k h = false
goes_to notice k h = false
goes_to stray k h = false
goes_to misplaced k h = false
goes_to (more n) k h = last_got n k h
goes_to (last n) k h = last_got n k h
goes_to (late n) k h = last_got n k h
goes_to (late_last n) k h = last_got n k h

-- last or late last
abbrev pub ends_answer : Kind → Bool
ends_answer fault = false
ends_answer event = false
ends_answer notice = false
ends_answer stray = false
ends_answer misplaced = false
ends_answer (more n) = false
ends_answer (last n) = true
ends_answer (late n) = false
ends_answer (late_last n) = true

-- the lines handed to the kth ticket
abbrev pub lines_of : ℕ → History → List (List ℕ)
lines_of k [] = []
lines_of k (quiet ∷ h) = lines_of k h
lines_of k (submitted x m ∷ h) = lines_of k h
lines_of k (dry ∷ h) = lines_of k h
lines_of k (handed y l r ∷ h) = cond (goes_to y k h) (lines_of k h ++ (l ∷ [])) (lines_of k h)
lines_of k (settled t y o ∷ h) = lines_of k h
lines_of k (reset y ∷ h) = lines_of k h
lines_of k (arrived bs ∷ h) = lines_of k h
lines_of k (departed bs ∷ h) = lines_of k h
lines_of k (emitted l ∷ h) = lines_of k h

-- the lines emitted in answer to the kth ticket's command, with one line more; `base` submits were accepted before the last reset
abbrev pub with_line : ℕ → Line → ℕ → List (List ℕ) → List (List ℕ)
with_line base (event_line l e) k ls = ls
with_line base (empty_line e) k ls = ls
with_line base (answer_line n l e) k ls = cond (base + n == k) (ls ++ (l ∷ [])) ls

-- the lines emitted in answer to the kth ticket's command: the nth command received since the last reset is that of the nth
-- ticket accepted since
abbrev pub emitted_for : ℕ → History → List (List ℕ)
emitted_for k [] = []
emitted_for k (quiet ∷ h) = emitted_for k h
emitted_for k (submitted x m ∷ h) = emitted_for k h
emitted_for k (dry ∷ h) = emitted_for k h
emitted_for k (handed y l r ∷ h) = emitted_for k h
emitted_for k (settled t y o ∷ h) = emitted_for k h
emitted_for k (reset y ∷ h) = emitted_for k h
emitted_for k (arrived bs ∷ h) = emitted_for k h
emitted_for k (departed bs ∷ h) = emitted_for k h
emitted_for k (emitted l ∷ h) = with_line (before h) l k (emitted_for k h)

-- the lines that are not empty
abbrev pub not_empty : List Line → List Line
not_empty [] = []
not_empty (event_line l e ∷ ls) = event_line l e ∷ not_empty ls
not_empty (empty_line e ∷ ls) = not_empty ls
not_empty (answer_line n l e ∷ ls) = answer_line n l e ∷ not_empty ls

-- the lines emitted since the last reset, without the empty ones
abbrev pub emitted_since : History → List Line
emitted_since h = not_empty (since lines [] h)

-- how many lines pump handed out since the last reset
abbrev pub count_shown : History → ℕ
count_shown h = length (since shown [] h)

-- of the lines emitted, as many as were handed out, and the next one
abbrev pub told_so_far : History → List Line
told_so_far h = take (count_shown h) (emitted_since h)

abbrev pub next_emitted : History → Line
next_emitted h = slice_index_or (emitted_since h) (count_shown h) (empty_line 13)

-- What is right to tell, after the history h, of an emitted line l: of an event, that it is one; a line in answer to the nth command
-- since the last reset goes to the nth ticket since, and is told as the final one just where the answer is whole with it.
pub data Right (K : Codec) (h : History) : Kind → List ℕ → Line → Type 0 where
  right_event : (l : List ℕ) (e : ℕ) → Right K h event l (event_line l e)
  right_answer : (k : Kind) (n : ℕ) (l : List ℕ) (e : ℕ) (command : Message)
      → slice_index_or (commands_read K h) n (faulty 0 0) ≡ meant command
      → goes_to k (before h + n) h ≡ true
      → (ends_answer k ≡ true → WholeAnswer K command (answer_to n (told_so_far h) ++ (l ∷ [])))
      → (WholeAnswer K command (answer_to n (told_so_far h) ++ (l ∷ [])) → ends_answer k ≡ true)
      → Right K h k l (answer_line n l e)

-- every line ever handed out was the next one emitted, and was told rightly
abbrev pub HandedRight : Codec → History → Type 0
HandedRight K [] = Unit {0}
HandedRight K (quiet ∷ h) = HandedRight K h
HandedRight K (submitted x m ∷ h) = HandedRight K h
HandedRight K (dry ∷ h) = HandedRight K h
HandedRight K (handed k l r ∷ h) = ((count_shown h < length (emitted_since h)) × Right K h k l (next_emitted h)) × HandedRight K h
HandedRight K (settled t y o ∷ h) = HandedRight K h
HandedRight K (reset y ∷ h) = HandedRight K h
HandedRight K (arrived bs ∷ h) = HandedRight K h
HandedRight K (departed bs ∷ h) = HandedRight K h
HandedRight K (emitted l ∷ h) = HandedRight K h

pub record Matched (K : Codec) (h : History) : Type 0 where
  -- the commands that the player has received are, in order, a beginning of the messages submitted since the last reset
  pub received : Begins (commands_read K h) (map meant (since messages [] h))
  pub to_its_ticket : HandedRight K h
  -- the lines handed to a ticket are, in order, a beginning of those emitted in answer to its command
  pub own_lines : (k : ℕ) → Begins (lines_of k h) (emitted_for k h)

-- ==== All three; the third where the player is honest.
pub record Promises (K : Codec) (link : ℕ) (first : Meaning) (Held : ℕ → Type 0) (h : History) : Type 0 where
  pub in_order : InOrder K first h
  pub counted : Counted link Held h
  pub matched : Honest K first h → Matched K h
