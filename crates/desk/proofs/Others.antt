-- A ticket of another link.
use Rattle.std.proofs.Common.{◌≡◌, ℕ, List, refl, subst}
use Rattle.life.specs.Link.{State, Settled}
use Rattle.link.specs.declared.ticket.Ticket.{Ticket}
use Rattle.numbers.specs.Slots.{outcome_of}
use Rattle.numbers.specs.declared.slot.Outcome.{Outcome}
use Rattle.script.specs.Script.{settle_other}
use Rattle.desk.specs.Desks.{Tickets, Obeyed, settled_other}
use Rattle.desk.specs.declared.row.Row.TheVariants.{Settled as SettledRow}

pub settles_other : {s t : State} {held : Tickets} {old : List ℕ} (k : Ticket) (o : Outcome) → k.link ≡ 2 → Settled s k.link k.number (outcome_of o) t
    → Obeyed s t held held old old settle_other (SettledRow o)
settles_other {s} {t} k o is does =
    let P : ℕ → Type 0 = λ u. Settled s u k.number (outcome_of o) t in settled_other k.number (subst P is does) refl refl
