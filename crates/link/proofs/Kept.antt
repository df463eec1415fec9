-- The theorem on a link's whole life, in the form in which the contract of each call cites it.
use Rattle.std.proofs.Common.{ℕ, Bool, List, [], Ok, Err, Result, sym, subst}
use Rattle.line.specs.Lines.{Read}
use Rattle.line.specs.declared.fault.Fault.{Fault}
use Rattle.life.specs.Calls.{Call, History, quiet, reset, submitted}
use Rattle.life.specs.Link.{State, New, Does, making, Arrives, Departs, Clears, Settled, Resets, did_refuse, did_submit, did_dry, did_hand, did_settle, did_reset, did_arrive, did_depart, did_clear}
use Rattle.life.proofs.Kept.{kept}
use Rattle.life.proofs.Kept.{lives_on as goes_on}
use Rattle.numbers.specs.Ours.{ours}
use Rattle.numbers.specs.Slots.{outcome_of}
use Rattle.numbers.specs.declared.slot.Outcome.{Outcome}
use Rattle.numbers.proofs.Lawful.{lawful}
use Rattle.link.specs.declared.pumped.Pumped.{Pumped}
use Rattle.link.specs.declared.pumped.Pumped.TheVariants.{Dry, Line}
use Rattle.link.specs.declared.ticket.Ticket.{Ticket}
use Rattle.link.specs.Submitting.{Accepts, Submitted, message_in, submit_entry}
use Rattle.link.specs.Meanings.{pump_entry, settle_entry, arrive_entry, depart_entry, Pumps, LivesOn, LivesOnBy, BeginsLife}

pub begins_life : (s : State) → New s → BeginsLife s
begins_life s new = let v = making new in (v, kept ours lawful s s [] v)

module _ (s t : State) where
  lives_on : (c : Call) → ((h : History) → Does ours h s t c) → LivesOn s c t
  lives_on c d first h w = goes_on ours lawful first h s t c w (d h)

  pub pump_lives : (old new : List ℕ) (r : Result Pumped Fault) → Pumps s old r t new → LivesOn s (pump_entry r new) t
  pump_lives old new (Err f) d = lives_on _ (λ h. did_refuse d.0.same)
  pump_lives old new (Ok Dry) d = lives_on _ (λ h. did_dry d.0)
  pump_lives old new (Ok (Line k n)) d = lives_on _ (λ h. did_hand _ _ _ d.0)

  pub settle_lives : (u n : ℕ) (o : Outcome) → Settled s u n (outcome_of o) t → LivesOnBy u n s (settle_entry u n o) t
  settle_lives u n o d first h w out = goes_on ours lawful first h s t (settle_entry u n o) w (did_settle u n (outcome_of o) out d)

  pub reset_lives : (k : ℕ) → Resets s k t → LivesOn s (reset k) t
  reset_lives k d = lives_on _ (λ h. did_reset k d)

  pub arrive_lives : (bytes : List ℕ) (k : ℕ) → Arrives s bytes k t → LivesOn s (arrive_entry bytes k) t
  arrive_lives bytes k d = lives_on _ (λ h. did_arrive bytes k d)

  pub depart_lives : (old new : List ℕ) (k : ℕ) → Departs s old new k t → LivesOn s (depart_entry k new) t
  depart_lives old new k d = lives_on _ (λ h. did_depart old new k d)

  pub clear_lives : (value : Bool) → Clears s value t → LivesOn s quiet t
  clear_lives value d = lives_on _ (λ h. did_clear value d)

  submitted_lives : (address body : List ℕ) (ticket : Ticket) (w : Accepts s address body ticket.link ticket.number t) → (h : History) → Does ours h s t (submit_entry address body (Ok ticket))
  submitted_lives address body ticket w h =
      let n = ticket.number in
      subst (λ (r : Read). Does ours h s t (submitted n (message_in r))) (sym w.means) (did_submit n w.message w.submits)

  pub submit_lives : (address body : List ℕ) (r : Result Ticket Fault) → Submitted s address body r t → LivesOn s (submit_entry address body r) t
  submit_lives address body (Err f) d = lives_on _ (λ h. did_refuse d.0)
  submit_lives address body (Ok ticket) d = lives_on _ (submitted_lives address body ticket d)
