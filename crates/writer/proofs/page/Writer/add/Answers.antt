use Rattle.writer.proofs.Fields.{one_field}
use Rattle.writer.proofs.page.Writer.add.Goals as goal

pub returns : goal.returns
returns c = one_field c.args.self.now c.add_all.new.self c.add_all.result c.args.field.now c.add_all.ensures
