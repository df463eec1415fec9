use Rattle.std.proofs.lemmas.Result.{err_from_is_err_and}
use Rattle.link.proofs.Submits.{ready, unready}
use Rattle.link.proofs.link.submitting.ready_line.Goals as goal

pub returns-in_err-prepared : goal.returns-in_err-prepared
returns-in_err-prepared c =
    let p = err_from_is_err_and c.from_residual.result c.from_residual.ensures.1 in
    rw (p.1, p.2)
    (unready c.args.request.now.address.now c.args.request.now.body.now c.args.line.now c.prepare.new.out c.args.number c.requires.1 c.requires.0 c.in_err-prepared.field-0.0 c.in_err-prepared.ensures.outcome)

pub returns : goal.returns
returns c =
    ready c.args.request.now.address.now c.args.request.now.body.now c.args.line.now c.prepare.new.out c.args.number c.requires.1 c.requires.0 c.in_ok-prepared.prepared c.in_ok-prepared.ensures.outcome
