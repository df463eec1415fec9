-- What the values of the code mean, the entry of each call in a history, and what the calls answer.
use Rattle.std.specs.Prelude.{◌≡◌, ℕ, ◌<◌, ◌≤◌, cond, ◌⊎◌, List, [], ◌∷◌, ◌++◌, length, take, drop, Some, None, Ok, Err, Option, Result, ◌≢◌, nat_le}
use Rattle.line.specs.Lines.{Read, meant, faulty}
use Rattle.line.specs.Lines.{Message as Meant}
use Rattle.line.specs.Meanings.{told, number_of, message_of}
use Rattle.line.specs.declared.fault.Fault.{Fault}
use Rattle.line.specs.declared.message.Message.{Message}
use Rattle.port.specs.Port.{Meaning}
use Rattle.reader.specs.Unfinished.{part_of}
use Rattle.numbers.specs.Ours.{as_answer, ours}
use Rattle.numbers.specs.Slots.{outcome_of}
use Rattle.numbers.specs.Ten.{slots_of}
use Rattle.numbers.specs.declared.slot.Outcome.{Outcome}
use Rattle.life.specs.Calls.{fault, event, notice, stray, misplaced, more, last, late, late_last, Call, quiet, dry, handed, settled, arrived, departed, History}
use Rattle.life.specs.Calls.{Kind as Told-kind}
use Rattle.life.specs.Promises.{times, out}
use Rattle.life.specs.Link.{State, Dries, Hands, Leads}
use Rattle.life.specs.Kept.{Promised}
use Rattle.link.specs.declared.pumped.Kind.{Kind}
use Rattle.link.specs.declared.pumped.Kind.TheVariants.{Fault as FaultKind, Event, Notice, Stray, Misplaced, More, Last, Late, LateLast}
use Rattle.link.specs.declared.pumped.Pumped.{Pumped}
use Rattle.link.specs.declared.pumped.Pumped.TheVariants.{Dry, Line}
use Rattle.link.specs.declared.inner.Core.{Core}
use Rattle.link.specs.declared.link.Link.{Link}

abbrev pub state : Meaning → Core → State
state port core = record {
  port = port;
  link = core.number;
  unfinished = part_of core.unfinished;
  slots = slots_of core.numbers;
  recent = core.numbers.recent;
}

-- a link as the promises of its whole life speak of it, by what its port means
abbrev pub state_of : {P : Type 0} → (P → Meaning) → Link P → State
state_of meaning l = state (meaning l.port) l.core

-- ---- answers
abbrev pub kind_of : Kind → Told-kind
kind_of (FaultKind f) = fault
kind_of Event = event
kind_of Notice = notice
kind_of Stray = stray
kind_of Misplaced = misplaced
kind_of (More n) = more n
kind_of (Last n) = last n
kind_of (Late n) = late n
kind_of (LateLast n) = late_last n

-- what a line told as the kind was read as: a fault says its number and place, any other is read from the buffer
abbrev pub read_told : Kind → List ℕ → Read
read_told (FaultKind f) l = told f
read_told Event l = as_answer l
read_told Notice l = as_answer l
read_told Stray l = as_answer l
read_told Misplaced l = as_answer l
read_told (More n) l = as_answer l
read_told (Last n) l = as_answer l
read_told (Late n) l = as_answer l
read_told (LateLast n) l = as_answer l

-- ---- the entry of a call in a history, by its arguments, its answer and the buffer as it is afterwards
abbrev pub pump_entry : Result Pumped Fault → List ℕ → Call
pump_entry (Err f) buffer = quiet
pump_entry (Ok Dry) buffer = dry
pump_entry (Ok (Line k n)) buffer = handed (kind_of k) (take n buffer) (read_told k (take n buffer))

abbrev pub settle_entry : ℕ → ℕ → Outcome → Call
settle_entry link number o = settled link number (outcome_of o)

abbrev pub arrive_entry : List ℕ → ℕ → Call
arrive_entry bytes k = arrived (take k bytes)

abbrev pub depart_entry : ℕ → List ℕ → Call
depart_entry k buffer = departed (take k buffer)

-- ---- what pump answers and does
-- a refused pump: it takes a buffer of at least 1,024 bytes
pub record Refuses (s : State) (old : List ℕ) (t : State) (new : List ℕ) : Type 0 where
  pub small : length old < 1024
  pub same : t ≡ s
  pub buffer : new ≡ old

-- the first bytes of a buffer that takes lines are l, and the others are untouched
pub record Stands (old new l : List ℕ) (n : ℕ) : Type 0 where
  pub large : 1024 ≤ length old
  pub count : n ≡ length l
  pub buffer : new ≡ l ++ drop n old

-- a buffer of fewer than 1,024 bytes is refused with fault 11, a port with no whole line is dry, and else the next line that is
-- not empty stands in the buffer
abbrev pub Pumps : State → List ℕ → Result Pumped Fault → State → List ℕ → Type 0
Pumps s old (Err f) t new = Refuses s old t new × (number_of f ≡ 11)
Pumps s old (Ok Dry) t new = Dries s t × (new ≡ old) × (1024 ≤ length old)
Pumps s old (Ok (Line k n)) t new = Hands ours s (kind_of k) (take n new) (read_told k (take n new)) t × Stands old new (take n new) n

-- ---- what stays true of a link as long as it lives
-- every history that leads to s, with one entry more, leads to t and keeps the promises
abbrev pub LivesOn : State → Call → State → Type 0
LivesOn s c t = (first : State) (h : History) → Leads ours first h s → Leads ours first (c ∷ h) t × Promised ours first (c ∷ h) t

-- the same, supposing that a ticket with the number is out, or that the ticket has another link number
abbrev pub LivesOnBy : (link number : ℕ) → State → Call → State → Type 0
LivesOnBy link number s c t =
    (first : State) (h : History) → Leads ours first h s → (0 < times number (out s.link h)) ⊎ (link ≢ s.link)
    → Leads ours first (c ∷ h) t × Promised ours first (c ∷ h) t

-- the life of a link begins
abbrev pub BeginsLife : State → Type 0
BeginsLife s = Leads ours s [] s × Promised ours s [] s

-- ---- what message answers
abbrev pub messages_of : Option Message → Option Meant
messages_of None = None
messages_of (Some m) = Some (message_of m)

abbrev pub if_meant : Read → Option Meant
if_meant (meant m) = Some m
if_meant (faulty number place) = None

-- the message of the first n bytes of a buffer; none if it has not so many, or they have a fault
abbrev pub message_at : List ℕ → ℕ → Option Meant
message_at buffer n = cond (nat_le n (length buffer)) (if_meant (as_answer (take n buffer))) None
