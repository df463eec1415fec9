use Rattle.std.proofs.Common.{ap, ◌∙◌}
use Rattle.line.specs.Fields.{is_text}
use Rattle.line.proofs.Indices.{field_later}
use Rattle.line.proofs.message.Message.field_is.Goals as goal

pub returns-in-Some-2 : goal.returns-in-Some-2
returns-in-Some-2 c = c.means.ensures ∙ ap (is_text c.args.text.now) (field_later c.args.self.now c.args.index c.in-Some.raw.now c.in-Some.ensures c.if-index-eq0.false)
