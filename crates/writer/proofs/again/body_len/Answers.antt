use Rattle.std.proofs.Common.{ℕ, List, length, ap, arith, Bor}
use Rattle.escape.proofs.Walking.{shorter}
use Rattle.writer.proofs.again.body_len.Goals.{in-Plain-eq58-default, in-Plain, in-Escape}
use Rattle.writer.proofs.again.body_len.Goals as goal

left : ℕ × Bor (List ℕ) → ℕ
left p = length p.1.now

pub loop-more-smaller : goal.loop-more-smaller
unfolding left
loop-more-smaller c = elim c.match-first_of.branch [
  | in-Plain-eq58-default w ↦ let h = w.in-Plain-eq58-default in omega (arith, ap left w.len-is, shorter c.loop-more.rest.now h.more.now _ h.ensures (omega arith))
  | in-Plain w ↦ let h = w.in-Plain in omega (arith, ap left w.len-is, shorter c.loop-more.rest.now h.more.now _ h.ensures (omega arith))
  | in-Escape w ↦ let h = w.in-Escape in omega (arith, ap left w.len-is, shorter c.loop-more.rest.now h.more.now _ h.ensures (omega arith))
]
