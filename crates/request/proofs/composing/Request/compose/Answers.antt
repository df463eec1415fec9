use Rattle.std.proofs.Common.{[]}
use Rattle.writer.proofs.Growing.{lies_none}
use Rattle.request.proofs.Puts.{fits}
use Rattle.request.proofs.composing.Request.compose.Goals as goal

pub returns : goal.returns
returns c =
    let was = c.args.line.now in
    let parts = c.put_parts-at.ensures.lies was [] (lies_none was) in
    let h = fits c.args.self.now.address.now c.args.self.now.body.now was c.args.digit c.told-line c.put_check.new.line c.put_check.result c.if-not-is_short.ensures (c.put_check.ensures was _ parts) in
    record { answer = h.0; after = h.1 }
