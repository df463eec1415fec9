use Rattle.std.proofs.Common.{refl}
use Rattle.numeral.specs.Numbers.{spelled_on}
use Rattle.record.specs.Records.{field_of, is_kind}
use Rattle.worked.proofs.worked_lines.Goals as goal

-- each side is computed
pub returns : goal.returns
unfolding spelled_on field_of is_kind
returns c = (refl, refl, refl, refl)
