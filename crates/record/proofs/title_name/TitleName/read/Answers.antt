use Rattle.std.proofs.Common.{ℕ, List, length, sym, ap, ◌∙◌, arith}
use Rattle.escape.specs.Tokens.{resolved}
use Rattle.escape.specs.Resolving.{written}
use Rattle.line.specs.Meanings.{message_of}
use Rattle.numeral.proofs.Numerals.{front}
use Rattle.record.specs.Records.{field_of}
use Rattle.record.proofs.Lying.{one_lies}
use Rattle.record.proofs.title_name.TitleName.read.Goals as goal

pub returns-clause-lies : goal.returns-clause-lies
returns-clause-lies c =
    let out = c.args.out.now in
    let is = c.raw.ensures in
    let fit = front (resolved c.raw.result.now) out c.resolve.new.out c.in_ok-end.end (sym c.in_ok-end.ensures.ok_part ∙ c.resolve.ensures.answer) c.resolve.ensures.after in
    one_lies c.in_ok-end.end (field_of (message_of c.args.message.now) 1) out c.resolve.new.out (fit.1 ∙ ap length is) (omega (arith, fit.1, fit.2, ap length is)) (c.resolve.ensures.after ∙ ap (λ (x : List ℕ). written x out) is)
