use Rattle.std.proofs.Common.{◌≡◌, ◌≤◌, length, take}
use Rattle.writer.specs.Canonical.{body_text}
use Rattle.writer.specs.Writing.{behind_all}
use Rattle.writer.proofs.lengths.fields_len.Given as goal

abbrev pub invariant-loop-field : goal.invariant-loop-field
invariant-loop-field l = (l.n ≡ length (body_text (behind_all (take l.field-index l.fields)))) × (l.n ≤ 1024)
