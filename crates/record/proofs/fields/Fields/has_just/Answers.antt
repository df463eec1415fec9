use Rattle.std.proofs.Common.{arith}
use Rattle.record.proofs.Places.{last_there, last_missing}
use Rattle.record.proofs.fields.Fields.has_just.Goals as goal

pub returns-then-is_some : goal.returns-then-is_some
returns-then-is_some c =
    last_there c.args.self.now.message c.args.count c.raw_field.result c.raw_field-then-is_some.result c.is_none.result (omega arith) c.if-is_some.ensures c.is_none.ensures c.raw_field.ensures c.raw_field-then-is_some.ensures

pub returns-else-is_some : goal.returns-else-is_some
returns-else-is_some c = last_missing c.args.self.now.message c.args.count c.raw_field.result c.is_some.result (omega arith) c.if-is_some.ensures c.is_some.ensures c.raw_field.ensures
