use Rattle.std.proofs.Common.{ap, ◌∙◌, arith}
use Rattle.line.proofs.Indices.{field_none, field_later}
use Rattle.numbers.specs.Browse.{number_in}
use Rattle.numbers.proofs.listing.number_at.Goals as goal

pub returns-in_err-raw_field : goal.returns-in_err-raw_field
returns-in_err-raw_field c = c.from_residual.ensures ∙ ap number_in (field_none c.args.message.now c.args.index c.in_err-raw_field.ensures)

pub returns : goal.returns
returns c = c.field_count.ensures ∙ ap number_in (field_later c.args.message.now c.args.index c.in_ok-raw_field.field-0.now c.in_ok-raw_field.ensures (λ none. let some = c.requires in omega arith))
