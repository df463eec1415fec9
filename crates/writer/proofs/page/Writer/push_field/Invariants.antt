use Rattle.std.proofs.Common.{take}
use Rattle.escape.specs.Spelling.{spelling}
use Rattle.writer.specs.Writing.{Pushed}
use Rattle.writer.proofs.page.Writer.push_field.Given as goal

abbrev pub invariant-loop-b : goal.invariant-loop-b
invariant-loop-b l = Pushed l.initial.self l.self (spelling (take l.b-index l.field))
