use Rattle.std.proofs.Common.{arith}
use Rattle.line.specs.Meanings.{message_of}
use Rattle.request.proofs.Readying.{read_ready, prepares}
use Rattle.request.proofs.composing.Request.prepare.Goals as goal

pub ready-requires : goal.ready-requires
ready-requires c =
    ((read_ready c.args.self.now.address.now c.args.self.now.body.now c.args.number c.mark_of.result (message_of c.in_ok-message.message) c.mark_of.ensures c.in_ok-message.ensures).1.sends, omega arith)

pub returns-clause-outcome : goal.returns-clause-outcome
returns-clause-outcome c = λ h.
    prepares c.args.self.now.address.now c.args.self.now.body.now c.args.out.now c.ready.new.out c.args.number c.mark_of.result (message_of c.in_ok-message.message) c.ready.result c.mark_of.ensures
    c.in_ok-message.ensures c.ready.ensures
