use Rattle.std.proofs.Common.{◌≡◌, ℕ, List, ◌++◌, length}
use Rattle.escape.specs.Tokens.{tokens}
use Rattle.writer.specs.Writing.{Pushed}
use Rattle.writer.specs.Rewriting.{respelt}
use Rattle.writer.proofs.page.Writer.push_body.Given as goal

-- what is pushed, and that what is left gives the rest
abbrev pub invariant-loop-b : goal.invariant-loop-b
invariant-loop-b l =
    (done : List ℕ)
    × (done ++ respelt (tokens l.rest) ≡ respelt (tokens l.body))
    × Pushed l.initial.self l.self done

abbrev pub decreases-loop-b : goal.decreases-loop-b
decreases-loop-b l = length l.rest
