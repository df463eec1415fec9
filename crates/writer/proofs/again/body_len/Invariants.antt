use Rattle.std.proofs.Common.{◌≡◌, ◌+◌, ◌≤◌, length}
use Rattle.escape.specs.Tokens.{tokens}
use Rattle.writer.specs.Rewriting.{respelt}
use Rattle.writer.proofs.again.body_len.Given as goal

abbrev pub invariant-loop-more : goal.invariant-loop-more
invariant-loop-more l = (l.n + length (respelt (tokens l.rest)) ≡ length (respelt (tokens l.body))) × (l.n ≤ 1024)

abbrev pub decreases-loop-more : goal.decreases-loop-more
decreases-loop-more l = length l.rest
