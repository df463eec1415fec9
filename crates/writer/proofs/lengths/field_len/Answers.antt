use Rattle.std.proofs.Common.{◌+◌, ◌<◌, length, arith, rules}
use Rattle.escape.specs.Spelling.{spelling}
use Rattle.writer.proofs.Growing.{within, longer}
use Rattle.writer.proofs.lengths.field_len.Goals as goal

pub returns-in_err-n : goal.returns-in_err-n
returns-in_err-n c =
    let s = c.args.field.now in
    let i = c.loop-b.b-index in
    let long : 1024 < length (spelling s) = omega (arith, c.in_err-n.ensures, longer s i (omega arith), within s (i + 1)) in
    search rules

pub loop-b-preserved : goal.loop-b-preserved
loop-b-preserved c = omega (arith, c.in_ok-n.ensures, longer c.args.field.now c.loop-b.b-index (omega arith))
