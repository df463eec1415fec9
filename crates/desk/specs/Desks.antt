-- What a desk makes of a call: the row that it answers, and how the link, the tickets that are held and the buffer stand afterwards.
use Rattle.std.specs.Prelude.{◌≡◌, ℕ, zero, suc, ◌+◌, ◌<◌, ◌≤◌, Bool, List, length, take, drop, Some, None, Ok, Err, codes, Option, slice_index_or, slice_set}
use Rattle.escape.specs.Tokens.{resolved}
use Rattle.escape.specs.Resolving.{written}
use Rattle.line.specs.declared.fault.Fault.{Fault}
use Rattle.life.specs.Link.{State, New, Arrives, Departs, Clears, Settled, Resets}
use Rattle.port.specs.Port.{Meaning}
use Rattle.link.specs.Meanings.{state_of, Pumps}
use Rattle.link.specs.Submitting.{Submitted}
use Rattle.link.specs.declared.pumped.Pumped.{Pumped}
use Rattle.link.specs.declared.ticket.Ticket.{Ticket}
use Rattle.numbers.specs.Slots.{outcome_of}
use Rattle.numbers.specs.declared.slot.Outcome.{Outcome}
use Rattle.script.specs.Script.{submit, pump, settle, settle_other, reset, arrive, depart, clear, unknown}
use Rattle.script.specs.Script.{Call as Asked}
use Rattle.desk.specs.declared.desk.Desk.{Desk}
use Rattle.desk.specs.declared.row.Row.{Row}
use Rattle.desk.specs.declared.row.Row.TheVariants.{Ticket as TicketRow, Refused, Pumped as PumpedRow, Settled as SettledRow, NoTicket, Reset, Arrived, Departed, Clear, Unknown}

-- the ticket for each number
abbrev pub Tickets : Type 0
Tickets = List (Option Ticket)

-- a ticket is settled if there is one
abbrev pub SettledIf : State → Option Ticket → Option Outcome → State → Type 0
SettledIf s None None t = t ≡ s
SettledIf s None (Some o) t = ⊥
SettledIf s (Some k) None t = ⊥
SettledIf s (Some k) (Some o) t = Settled s k.link k.number (outcome_of o) t

-- the tickets held for k numbers from n on are settled, one after the other
abbrev pub SettledFrom : ℕ → ℕ → State → Tickets → State → Type 0
SettledFrom zero n s held t = t ≡ s
SettledFrom (suc k) n s held t = (u : State) × (o : Option Outcome) × SettledIf s (slice_index_or held n None) o u × SettledFrom k (n + 1) u held t

-- those held for all ten numbers
abbrev pub SettledAll : State → Tickets → State → Type 0
SettledAll s held t = SettledFrom 10 0 s held t

-- a call that takes the first n bytes of the buffer leaves the others untouched
pub data Obeyed (s t : State) (held left : Tickets) (old new : List ℕ) : Asked → Row → Type 0 where
  -- the ticket is held from now on; one that was held for its number would be settled
  accepted : {address body : List ℕ} {n : ℕ} (k : Ticket) (u : State) (o : Option Outcome) → Submitted s address body (Ok k) u → n ≡ k.number
      → SettledIf u (slice_index_or held n None) o t → left ≡ slice_set held n (Some k) → new ≡ old → Obeyed s t held left old new (submit address body) (TicketRow n)
  refused : {address body : List ℕ} {f : Fault} → Submitted s address body (Err f) t → left ≡ held → new ≡ old
      → Obeyed s t held left old new (submit address body) (Refused f)
  pumped : {n : ℕ} {p : Pumped} → Pumps s (take n old) (Ok p) t (take n new) → drop n new ≡ drop n old → left ≡ held
      → Obeyed s t held left old new (pump n) (PumpedRow p)
  too_small : {n : ℕ} {f : Fault} → Pumps s (take n old) (Err f) t (take n new) → drop n new ≡ drop n old → left ≡ held
      → Obeyed s t held left old new (pump n) (Refused f)
  settled : {n : ℕ} {o : Outcome} → SettledIf s (slice_index_or held n None) (Some o) t → left ≡ slice_set held n None → new ≡ old
      → Obeyed s t held left old new (settle n) (SettledRow o)
  not_held : {n : ℕ} → SettledIf s (slice_index_or held n None) None t → left ≡ slice_set held n None → new ≡ old
      → Obeyed s t held left old new (settle n) NoTicket
  -- there are ten numbers
  no_number : {n : ℕ} → 10 ≤ n → t ≡ s → left ≡ held → new ≡ old → Obeyed s t held left old new (settle n) NoTicket
  -- a ticket with link number 2
  settled_other : {o : Outcome} (n : ℕ) → Settled s 2 n (outcome_of o) t → left ≡ held → new ≡ old → Obeyed s t held left old new settle_other (SettledRow o)
  -- a new link would refuse the command
  none_other : {f : Fault} (u v : State) → New u → Submitted u (codes "01") (codes "PLAY:") (Err f) v → t ≡ s → left ≡ held → new ≡ old → Obeyed s t held left old new settle_other (Refused f)
  were_lost : {count : ℕ} → Resets s count t → left ≡ held → new ≡ old → Obeyed s t held left old new reset (Reset count)
  arrived : {text : List ℕ} {k : ℕ} → Arrives s (resolved text) k t → length (resolved text) ≤ length old → new ≡ written (resolved text) old
      → left ≡ held → Obeyed s t held left old new (arrive text) (Arrived k)
  -- the buffer has no room for what the text means
  too_long : {text : List ℕ} → length old < length (resolved text) → t ≡ s → left ≡ held → new ≡ old → Obeyed s t held left old new (arrive text) Unknown
  departed : {n k : ℕ} → Departs s (take n old) (take n new) k t → drop n new ≡ drop n old → left ≡ held
      → Obeyed s t held left old new (depart n) (Departed k)
  cleared : {value : Bool} → Clears s value t → left ≡ held → new ≡ old → Obeyed s t held left old new (clear value) (Clear value)
  not_known : t ≡ s → left ≡ held → new ≡ old → Obeyed s t held left old new unknown Unknown

-- the desk was old and is new, by what the port of its link means; the buffer was `was` and is `now`
abbrev pub ObeyedBy : {P : Type 0} → (P → Meaning) → (old new : Desk P) → (was now : List ℕ) → Asked → Row → Type 0
ObeyedBy meaning old new was now asked row = Obeyed (state_of meaning old.link) (state_of meaning new.link) old.tickets new.tickets was now asked row

-- a call that takes no buffer: any buffer stays as it is
abbrev pub ObeyedApart : {P : Type 0} → (P → Meaning) → (old new : Desk P) → Asked → Row → Type 0
ObeyedApart meaning old new asked row = (b : List ℕ) → ObeyedBy meaning old new b b asked row
