-- How one number stands, and what each call makes of it.
use Rattle.std.specs.Prelude.{ℕ, Bool, true, false, cond, List, Some, None, codes, Option}
use Rattle.std.specs.Option.{option_map}
use Rattle.line.specs.Lines.{Message}
use Rattle.life.specs.Answers.{start, not_next, final, onward, next}
use Rattle.life.specs.Answers.{Step as Stepped, Place as Placed}
use Rattle.life.specs.Calls.{Kind, stray, misplaced, more, last, late, late_last, answered, given_up, lost, foreign}
use Rattle.life.specs.Calls.{Outcome as Settling}
use Rattle.life.specs.Link.{is_free, is_open, is_answered, is_lost, is_given_up, advanced}
use Rattle.life.specs.Link.{Slot as Standing, Pending as Waiting}
use Rattle.numbers.specs.Addresses.{address_of, keepable}
use Rattle.numbers.specs.Browse.{is_browse}
use Rattle.numbers.specs.Ours.{ours}
use Rattle.numbers.specs.Meanings.{place_of, step_of}
use Rattle.numbers.specs.declared.listing.Step.{Step}
use Rattle.numbers.specs.declared.slot.Pending.{Pending}
use Rattle.numbers.specs.declared.slot.Slot.{Slot}
use Rattle.numbers.specs.declared.slot.Slot.TheVariants.{Free, Open, Answered, Lost, GivenUp}
use Rattle.numbers.specs.declared.slot.Outcome.{Outcome}
use Rattle.numbers.specs.declared.slot.Outcome.TheVariants.{Answered as AnsweredOutcome, GivenUp as GivenUpOutcome, Lost as LostOutcome, Foreign}
use Rattle.numbers.specs.declared.slot.Match.{Match}
use Rattle.numbers.specs.declared.slot.Match.TheVariants.{Stray, Misplaced, More, Last, Late, LateLast}

-- ---- what the values of the code mean
abbrev pub pending_of : Pending → Waiting
pending_of p = record { address = address_of p.address; browse = p.browse; place = place_of p.listing }

abbrev pub slot_of : Slot → Standing
slot_of Free = is_free
slot_of (Open p) = is_open (pending_of p)
slot_of Answered = is_answered
slot_of Lost = is_lost
slot_of (GivenUp p) = is_given_up (pending_of p)

abbrev pub outcome_of : Outcome → Settling
outcome_of AnsweredOutcome = answered
outcome_of GivenUpOutcome = given_up
outcome_of LostOutcome = lost
outcome_of Foreign = foreign

-- the fact, where settle answers foreign
abbrev pub IfForeign : Outcome → Type 0 → Type 0
IfForeign AnsweredOutcome P = Unit {0}
IfForeign GivenUpOutcome P = Unit {0}
IfForeign LostOutcome P = Unit {0}
IfForeign Foreign P = P

-- the kind that is told of a line with the number n
abbrev pub kind_of : ℕ → Match → Kind
kind_of n Stray = stray
kind_of n Misplaced = misplaced
kind_of n More = more n
kind_of n Last = last n
kind_of n Late = late n
kind_of n LateLast = late_last n

abbrev pub is_free_slot : Standing → Bool
is_free_slot is_free = true
is_free_slot (is_open p) = false
is_free_slot is_answered = false
is_free_slot is_lost = false
is_free_slot (is_given_up p) = false

-- ---- submit: the command just sent, if its address can be kept
abbrev pub begins : Message → Option Waiting
begins m = option_map (λ a. record { address = a; browse = is_browse m; place = start }) (keepable m.address)

-- ---- settle: what it answers, and how the number stands afterwards
abbrev pub settles : Standing → Settling × Standing
settles is_free = (foreign, is_free)
settles (is_open p) = (given_up, is_given_up p)
settles is_answered = (answered, is_free)
settles is_lost = (lost, is_free)
settles (is_given_up p) = (foreign, is_given_up p)

-- ---- pump: what is told of a line with the number n, and how the number stands afterwards
-- the step of a line in the answer to a command, if it has the command's address
abbrev pub tells_pending : Waiting → Message → Option Stepped
tells_pending p m = cond (ours.same_address m.address p.address) (Some (next ours p.browse p.place m)) None

-- a number that waits, at another place in its answer
abbrev pub further : Placed → Standing → Standing
further q is_free = is_free
further q (is_open p) = is_open (advanced p q)
further q is_answered = is_answered
further q is_lost = is_lost
further q (is_given_up p) = is_given_up (advanced p q)

abbrev pub stepped : Option Step → Option Stepped
stepped o = option_map step_of o

abbrev pub tells_open : ℕ → Waiting → Option Stepped → Kind × Standing
tells_open n p None = (stray, is_open p)
tells_open n p (Some not_next) = (misplaced, is_open p)
tells_open n p (Some final) = (last n, is_answered)
tells_open n p (Some (onward q)) = (more n, is_open (advanced p q))

abbrev pub tells_late : ℕ → Waiting → Option Stepped → Kind × Standing
tells_late n p None = (stray, is_given_up p)
tells_late n p (Some not_next) = (misplaced, is_given_up p)
tells_late n p (Some final) = (late_last n, is_free)
tells_late n p (Some (onward q)) = (late n, is_given_up (advanced p q))

abbrev pub tells : ℕ → Standing → Message → Kind × Standing
tells n is_free m = (stray, is_free)
tells n (is_open p) m = tells_open n p (tells_pending p m)
tells n is_answered m = (stray, is_answered)
tells n is_lost m = (stray, is_lost)
tells n (is_given_up p) m = tells_late n p (tells_pending p m)

-- what is shown of an outcome
abbrev pub outcome_name : Outcome → List ℕ
outcome_name AnsweredOutcome = codes "ANSWERED"
outcome_name GivenUpOutcome = codes "GIVEN UP"
outcome_name LostOutcome = codes "LOST"
outcome_name Foreign = codes "FOREIGN"
