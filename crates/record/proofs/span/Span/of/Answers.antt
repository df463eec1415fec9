use Rattle.record.proofs.Lying.{part_got}
use Rattle.record.proofs.span.Span.of.Goals as goal

pub returns : goal.returns
returns c = part_got c.args.self.now c.args.text.now c.get.result c.get.ensures.lookup
