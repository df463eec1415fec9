use Rattle.std.proofs.Common.{◌≡◌, length}
use Rattle.reader.specs.Stream.{first_cut}
use Rattle.reader.specs.Cutting.{by_parts}
use Rattle.reader.specs.Unfinished.{part_of, ReadsOnly}
use Rattle.reader.proofs.taking.next_line.Given as goal

abbrev pub invariant-loop-one : goal.invariant-loop-one
invariant-loop-one g l =
    (length l.one ≡ 1)
    × (first_cut by_parts (part_of l.unfinished) (g.P.Port.meaning l.port).incoming ≡ first_cut by_parts (part_of l.initial.unfinished) (g.P.Port.meaning l.initial.port).incoming)
    × ReadsOnly (g.P.Port.meaning l.initial.port) (g.P.Port.meaning l.port)

abbrev pub decreases-loop-one : goal.decreases-loop-one
decreases-loop-one g l = length (g.P.Port.meaning l.port).incoming
