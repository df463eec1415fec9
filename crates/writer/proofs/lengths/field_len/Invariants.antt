use Rattle.std.proofs.Common.{◌≡◌, ◌≤◌, length, take}
use Rattle.escape.specs.Spelling.{spelling}
use Rattle.writer.proofs.lengths.field_len.Given as goal

abbrev pub invariant-loop-b : goal.invariant-loop-b
invariant-loop-b l = (l.n ≡ length (spelling (take l.b-index l.field))) × (l.n ≤ 1024)
