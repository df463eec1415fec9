use Rattle.std.proofs.Common.{sym, ◌∙◌, rules}
use Rattle.reader.specs.Unfinished.{part_of}
use Rattle.reader.proofs.Steps.{nothing_left, last_byte}
use Rattle.reader.proofs.taking.next_line.Goals as goal

pub returns-then-moved-eq0 : goal.returns-then-moved-eq0
returns-then-moved-eq0 g c =
    let d = nothing_left (part_of c.loop-one.unfinished) (g.P.Port.meaning c.loop-one.port).incoming (search rules) in
    record { cut = sym c.loop-one.invariant.1 ∙ d.0; dry = λ e. search rules; rest = search rules }

pub returns-then-waiting-eq0 : goal.returns-then-waiting-eq0
returns-then-waiting-eq0 g c =
    let d = last_byte _ _ _ _ _ _ _ (part_of c.take.new.self) c.read-moved.ensures c.loop-one.invariant.0 c.if-moved-eq0.false c.if-waiting-eq0.true c.if-take.ensures in
    record { cut = sym c.loop-one.invariant.1 ∙ d.0; dry = λ e. d.1; rest = search rules }
