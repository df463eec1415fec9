use Rattle.std.proofs.Common.{refl, rules}
use Rattle.std.proofs.lemmas.Result.{err_from_is_err_and}
use Rattle.link.specs.Meanings.{state_of}
use Rattle.link.specs.Submitting.{no_number}
use Rattle.link.proofs.Submits.{refused, full}
use Rattle.link.proofs.link.Link.do_submit.Goals as goal

pub returns-in_default-clause-does : goal.returns-in_default-clause-does
returns-in_default-clause-does g c =
    let w = c.in_ok-ready_line.ensures in
    (refl, no_number w.message w.means c.in_default.ensures)

pub returns-in_err-ready_line-clause-does : goal.returns-in_err-ready_line-clause-does
returns-in_err-ready_line-clause-does g c =
    let p = err_from_is_err_and c.from_residual.result c.from_residual.ensures.1 in
    rw (p.1, p.2)
    (refl, refused (state_of g.P.Port.meaning c.args.self.now) c.args.address.now c.args.body.now 0 c.in_err-ready_line.field-0.0 (search rules) c.in_err-ready_line.ensures)

pub returns-in_err-prepared-clause-does : goal.returns-in_err-prepared-clause-does
returns-in_err-prepared-clause-does g c =
    let p = err_from_is_err_and c.from_residual-in_err-prepared.result c.from_residual-in_err-prepared.ensures.1 in
    rw (p.1, p.2)
    (refl, refused (state_of g.P.Port.meaning c.args.self.now) c.args.address.now c.args.body.now c.in-Some.number c.in_err-prepared.field-0.0 c.in-Some.ensures.0 c.in_err-prepared.ensures)

pub returns-then-not-has_room-clause-does : goal.returns-then-not-has_room-clause-does
returns-then-not-has_room-clause-does g c =
    (refl, full (state_of g.P.Port.meaning c.args.self.now) c.args.address.now c.args.body.now c.in-Some.number c.room-room.result.0 c.in_ok-prepared.prepared _ c.in-Some.ensures.1 c.in_ok-prepared.ensures c.room-room.ensures.room (search rules))
