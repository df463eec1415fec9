use Rattle.std.proofs.Common.{refl}
use Rattle.record.proofs.Places.{field_at}
use Rattle.record.proofs.fields.Fields.raw.Goals as goal

pub returns : goal.returns
returns c = field_at c.args.self.now.message c.raw_field.result c.unwrap_or.result _ c.args.place c.unwrap_or.ensures refl c.raw_field.ensures
