use Rattle.std.proofs.Common.{take}
use Rattle.writer.specs.Canonical.{body_text}
use Rattle.writer.specs.Laws.{Bytes}
use Rattle.writer.specs.Writing.{Pushed, behind_all}
use Rattle.writer.proofs.page.Writer.push_fields.Given as goal

abbrev pub invariant-loop-field : goal.invariant-loop-field
invariant-loop-field l = Bytes (behind_all (take l.field-index l.fields)) × Pushed l.initial.self l.self (body_text (behind_all (take l.field-index l.fields)))
