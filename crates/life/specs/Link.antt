-- The state of a link, what each call makes of it, and which histories lead to which state.
-- In each relation s is the state as the call begins and t the state as it returns.
use Rattle.std.specs.Prelude.{◌≡◌, ℕ, zero, suc, ◌+◌, ◌%◌, ◌<◌, Bool, true, false, ◌⊎◌, List, [], ◌∷◌, ◌++◌, length, take, ◌≢◌}
use Rattle.port.specs.Port.{Meaning, Arrived, Departed, Written, Cleared, HungUp}
use Rattle.line.specs.Forms.{Address}
use Rattle.line.specs.Lines.{Message, Read, meant, faulty}
use Rattle.reader.specs.Stream.{dry_at, cut_off, first_cut}
use Rattle.reader.specs.Cutting.{Part, bare, by_parts}
use Rattle.reader.specs.Unfinished.{ReadsOnly}
use Rattle.life.specs.Codec.{Codec, read_part}
use Rattle.life.specs.Answers.{Place, start, not_next, final, onward, next}
use Rattle.life.specs.Calls.{Kind, fault, event, notice, stray, misplaced, more, last, late, late_last, Outcome, answered, given_up, lost, foreign, Line, Call, quiet, submitted, dry, handed, settled, reset, arrived, departed, emitted, History}
use Rattle.life.specs.Promises.{times, out}

-- ---- the state
-- a command whose answer is not finished: its address, whether it is BROWSE, and the place in its answer
pub record Pending : Type 0 where
  pub address : Address
  pub browse : Bool
  pub place : Place

-- how a number stands
pub data Slot : Type 0 where
  -- no ticket and no command has it
  is_free : Slot
  -- its ticket is out, and the answer is not finished
  is_open : Pending → Slot
  -- its ticket is out, and the answer is finished
  is_answered : Slot
  -- its ticket is out, and a reset ended the command
  is_lost : Slot
  -- its ticket was settled, and the answer is not finished
  is_given_up : Pending → Slot

pub record State : Type 0 where
  pub port : Meaning
  -- the link number
  pub link : ℕ
  -- the line that has not ended yet, of which at most 1,024 bytes are held
  pub unfinished : Part
  -- the ten numbers 0 to 9
  pub slots : ℕ → Slot
  -- the number last given; 9 before the first
  pub recent : ℕ

-- ---- numbers: b is how they stood before, a how they stand after
abbrev pub Same : (ℕ → Slot) → (ℕ → Slot) → Type 0
Same b a = (n : ℕ) → a n ≡ b n

-- n now stands as x, and the others as before
pub record Put (b : ℕ → Slot) (n : ℕ) (x : Slot) (a : ℕ → Slot) : Type 0 where
  pub here : a n ≡ x
  pub others : (i : ℕ) → (i ≢ n) → a i ≡ b i

-- n is the first free number after r, with 0 after 9
pub record FirstFree (b : ℕ → Slot) (r n : ℕ) : Type 0 where
  pub free : b n ≡ is_free
  pub far : ℕ
  pub there : n ≡ (r + 1 + far) % 10
  pub first : (i : ℕ) → i < far → b ((r + 1 + i) % 10) ≢ is_free

-- open or given up, with this command
pub data Waits : Slot → Pending → Type 0 where
  when_open : (p : Pending) → Waits (is_open p) p
  when_given_up : (p : Pending) → Waits (is_given_up p) p

-- neither open nor given up
abbrev pub Idle : Slot → Type 0
Idle is_free = Unit {0}
Idle (is_open p) = ⊥
Idle is_answered = Unit {0}
Idle is_lost = Unit {0}
Idle (is_given_up p) = ⊥

-- open, answered or lost: a ticket out has it
abbrev pub HeldSlot : Slot → Type 0
HeldSlot is_free = ⊥
HeldSlot (is_open p) = Unit {0}
HeldSlot is_answered = Unit {0}
HeldSlot is_lost = Unit {0}
HeldSlot (is_given_up p) = ⊥

-- a command just accepted
abbrev pub begun : Codec → Message → Pending
begun K m = record { address = m.address; browse = K.is_browse m; place = start }

-- a command at another place in its answer
abbrev pub advanced : Pending → Place → Pending
advanced p q = record { address = p.address; browse = p.browse; place = q }

-- a number after a reset
abbrev pub after_reset : Slot → Slot
after_reset is_free = is_free
after_reset (is_open p) = is_lost
after_reset is_answered = is_answered
after_reset is_lost = is_lost
after_reset (is_given_up p) = is_free

abbrev pub one_if_open : Slot → ℕ
one_if_open is_free = 0
one_if_open (is_open p) = 1
one_if_open is_answered = 0
one_if_open is_lost = 0
one_if_open (is_given_up p) = 0

-- how many of the first n numbers are open
abbrev pub count_open : ℕ → (ℕ → Slot) → ℕ
count_open zero b = 0
count_open (suc n) b = count_open n b + one_if_open (b n)

-- ---- the calls
-- all of the link but its port is as it was
pub record PortOnly (s t : State) : Type 0 where
  pub link : t.link ≡ s.link
  pub unfinished : t.unfinished ≡ s.unfinished
  pub slots : Same s.slots t.slots
  pub recent : t.recent ≡ s.recent

-- the line of a command as it is written, with its end
abbrev pub ended_line : Codec → Message → List ℕ
ended_line K m = K.canonical m ++ (13 ∷ [])

-- submit, accepted: the message m got the number n, and all of its line was written
pub record Submits (K : Codec) (s : State) (n : ℕ) (m : Message) (t : State) : Type 0 where
  pub sendable : K.sendable m ≡ true
  pub number : FirstFree s.slots s.recent n
  pub mark : m.mark ≡ 48 + n
  pub port : Written s.port t.port (ended_line K m) (length (ended_line K m))
  pub link : t.link ≡ s.link
  pub unfinished : t.unfinished ≡ s.unfinished
  pub slots : Put s.slots n (is_open (begun K m)) t.slots
  pub recent : t.recent ≡ n

-- pump, with no finished line: all that waited is now part of the unfinished line
pub record Dries (s t : State) : Type 0 where
  pub cut : first_cut by_parts s.unfinished s.port.incoming ≡ dry_at t.unfinished
  pub incoming : t.port.incoming ≡ []
  pub port : ReadsOnly s.port t.port
  pub link : t.link ≡ s.link
  pub slots : Same s.slots t.slots
  pub recent : t.recent ≡ s.recent

-- the kind that is told of a line by what it was read as, and what becomes of the numbers
pub data Told (K : Codec) (b a : ℕ → Slot) : Read → Kind → Type 0 where
  told_fault : (n p : ℕ) → Same b a → Told K b a (faulty n p) fault
  told_event : (m : Message) → m.mark ≡ 33 → Same b a → Told K b a (meant m) event
  told_notice : (m : Message) → m.mark ≡ 63 → Same b a → Told K b a (meant m) notice
  -- a digit for a mark: no command waits at that number, or one with another address
  told_unknown : (m : Message) (n : ℕ) → m.mark ≡ 48 + n → n < 10 → Idle (b n) → Same b a → Told K b a (meant m) stray
  told_elsewhere : (m : Message) (n : ℕ) (p : Pending) → m.mark ≡ 48 + n → n < 10 → Waits (b n) p
      → K.same_address m.address p.address ≡ false → Same b a → Told K b a (meant m) stray
  told_misplaced : (m : Message) (n : ℕ) (p : Pending) → m.mark ≡ 48 + n → n < 10 → Waits (b n) p
      → K.same_address m.address p.address ≡ true → next K p.browse p.place m ≡ not_next → Same b a → Told K b a (meant m) misplaced
  told_more : (m : Message) (n : ℕ) (p : Pending) (q : Place) → m.mark ≡ 48 + n → n < 10 → b n ≡ is_open p
      → K.same_address m.address p.address ≡ true → next K p.browse p.place m ≡ onward q
      → Put b n (is_open (advanced p q)) a → Told K b a (meant m) (more n)
  told_last : (m : Message) (n : ℕ) (p : Pending) → m.mark ≡ 48 + n → n < 10 → b n ≡ is_open p
      → K.same_address m.address p.address ≡ true → next K p.browse p.place m ≡ final
      → Put b n is_answered a → Told K b a (meant m) (last n)
  told_late : (m : Message) (n : ℕ) (p : Pending) (q : Place) → m.mark ≡ 48 + n → n < 10 → b n ≡ is_given_up p
      → K.same_address m.address p.address ≡ true → next K p.browse p.place m ≡ onward q
      → Put b n (is_given_up (advanced p q)) a → Told K b a (meant m) (late n)
  told_late_last : (m : Message) (n : ℕ) (p : Pending) → m.mark ≡ 48 + n → n < 10 → b n ≡ is_given_up p
      → K.same_address m.address p.address ≡ true → next K p.browse p.place m ≡ final
      → Put b n is_free a → Told K b a (meant m) (late_last n)

-- pump, with a finished line, of which l stands in the buffer, and which was read as r and told as k
pub record Hands (K : Codec) (s : State) (k : Kind) (l : List ℕ) (r : Read) (t : State) : Type 0 where
  -- what was held of the line as it ended
  pub held : Part
  pub cut : first_cut by_parts s.unfinished s.port.incoming ≡ cut_off held t.unfinished t.port.incoming
  pub stands : l ≡ held.kept
  pub read : r ≡ read_part K held
  pub told : Told K s.slots t.slots r k
  pub port : ReadsOnly s.port t.port
  pub link : t.link ≡ s.link
  pub recent : t.recent ≡ s.recent

-- settle, by a ticket with this link's number and the number n
pub data Settles (b : ℕ → Slot) (n : ℕ) (a : ℕ → Slot) : Outcome → Type 0 where
  was_answered : b n ≡ is_answered → Put b n is_free a → Settles b n a answered
  was_lost : b n ≡ is_lost → Put b n is_free a → Settles b n a lost
  was_open : (p : Pending) → b n ≡ is_open p → Put b n (is_given_up p) a → Settles b n a given_up
  not_held : (HeldSlot (b n) → ⊥) → Same b a → Settles b n a foreign

-- settle, by a ticket with the link number u and the number n
pub record Settled (s : State) (u n : ℕ) (o : Outcome) (t : State) : Type 0 where
  pub here : u ≡ s.link → Settles s.slots n t.slots o
  pub elsewhere : (u ≢ s.link) → (o ≡ foreign) × Same s.slots t.slots
  pub port : t.port ≡ s.port
  pub link : t.link ≡ s.link
  pub unfinished : t.unfinished ≡ s.unfinished
  pub recent : t.recent ≡ s.recent

-- reset, which answered how many numbers became lost
pub record Resets (s : State) (count : ℕ) (t : State) : Type 0 where
  pub counted : count ≡ count_open 10 s.slots
  pub port : HungUp s.port t.port
  pub link : t.link ≡ s.link
  pub unfinished : t.unfinished ≡ bare
  pub slots : (n : ℕ) → t.slots n ≡ after_reset (s.slots n)
  pub recent : t.recent ≡ s.recent

-- arrive, which was offered the bytes and took k of them
pub record Arrives (s : State) (bytes : List ℕ) (k : ℕ) (t : State) : Type 0 where
  pub port : Arrived s.port t.port bytes k
  pub rest : PortOnly s t

-- depart, which moved k bytes to a buffer that was `old` and is `new`
pub record Departs (s : State) (old new : List ℕ) (k : ℕ) (t : State) : Type 0 where
  pub port : Departed s.port t.port old new k
  pub rest : PortOnly s t

-- clear, which was told the value
pub record Clears (s : State) (value : Bool) (t : State) : Type 0 where
  pub port : Cleared s.port t.port value
  pub rest : PortOnly s t

-- ---- histories that lead to a state
-- The call leads from s to t; h is the history up to it. Settle supposes that the ticket has another link number, or that a ticket
-- with that number is out.
pub data Does (K : Codec) (h : History) (s t : State) : Call → Type 0 where
  did_refuse : t ≡ s → Does K h s t quiet
  did_clear : (value : Bool) → Clears s value t → Does K h s t quiet
  did_submit : (n : ℕ) (m : Message) → Submits K s n m t → Does K h s t (submitted n m)
  did_dry : Dries s t → Does K h s t dry
  did_hand : (k : Kind) (l : List ℕ) (r : Read) → Hands K s k l r t → Does K h s t (handed k l r)
  did_settle : (u n : ℕ) (o : Outcome) → (0 < times n (out s.link h)) ⊎ (u ≢ s.link)
      → Settled s u n o t → Does K h s t (settled u n o)
  did_reset : (n : ℕ) → Resets s n t → Does K h s t (reset n)
  did_arrive : (bytes : List ℕ) (k : ℕ) → Arrives s bytes k t → Does K h s t (arrived (take k bytes))
  did_depart : (old new : List ℕ) (k : ℕ) → Departs s old new k t → Does K h s t (departed (take k new))

-- a new link: no unfinished line, only free numbers, and 0 is given first
pub record New (s : State) : Type 0 where
  pub unfinished : s.unfinished ≡ bare
  pub slots : (n : ℕ) → s.slots n ≡ is_free
  pub recent : s.recent ≡ 9

-- the history leads from `first`, the link as it was made over any port, to a state; an emission of the player leaves the state
pub data Leads (K : Codec) (first : State) : History → State → Type 0 where
  making : New first → Leads K first [] first
  call : {h : History} {s : State} (c : Call) (t : State) → Leads K first h s → Does K h s t c → Leads K first (c ∷ h) t
  emission : {h : History} {s : State} (l : Line) → Leads K first h s → Leads K first (emitted l ∷ h) s
