use Rattle.writer.specs.Writing.{unclosed}
use Rattle.writer.proofs.Opening.{closed_by}
use Rattle.writer.proofs.page.Writer.close.Goals as goal

pub returns-clause-closed : goal.returns-clause-closed
returns-clause-closed c = λ was m o. closed_by was c.args.self.out.now c.end.new.out m c.args.self.len c.end.result c.args.self.short o (c.end.ensures.lies was (unclosed m) o.some o.lies)
