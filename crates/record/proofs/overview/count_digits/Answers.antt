use Rattle.std.proofs.Common.{ap, ◌∙◌, arith}
use Rattle.numeral.specs.Numbers.{counted, in_digits}
use Rattle.record.proofs.Backs.{count_back, count_digits}
use Rattle.record.proofs.overview.count_digits.Goals as goal

pub returns : goal.returns
returns c =
    let n = c.args.count in
    let same = count_digits n c.count_width.result c.digits.result (c.digits.ensures ∙ ap (in_digits 5) c.from.ensures) c.count_width.ensures in
    record { digits = same; back = ap counted same ∙ count_back n (omega arith) }
