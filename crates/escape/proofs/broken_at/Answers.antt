use Rattle.std.proofs.Common.{refl, arith}
use Rattle.escape.specs.Tokens.{first_broken, tokens}
use Rattle.escape.proofs.Walking.{shorter, sought_start, sought_more, sought_escape}
use Rattle.escape.proofs.broken_at.Goals as goal

pub loop-more-init : goal.loop-more-init
loop-more-init c = sought_start c.args.s.now

pub loop-more-smaller-in-Plain : goal.loop-more-smaller-in-Plain
loop-more-smaller-in-Plain c = shorter c.loop-more.rest.now c.in-Plain.more.now _ c.in-Plain.ensures (omega arith)

pub loop-more-preserved-in-Plain : goal.loop-more-preserved-in-Plain
loop-more-preserved-in-Plain c = sought_more c.args.s.now c.loop-more.rest.now c.in-Plain.more.now _ c.in-Plain.ensures refl c.loop-more.invariant

pub loop-more-smaller : goal.loop-more-smaller
loop-more-smaller c = shorter c.loop-more.rest.now c.in-Escape.more.now _ c.in-Escape.ensures (omega arith)

pub loop-more-preserved : goal.loop-more-preserved
loop-more-preserved c =
    sought_more c.args.s.now c.loop-more.rest.now c.in-Escape.more.now _ c.in-Escape.ensures
    (sought_escape _ (first_broken (tokens c.in-Escape.more.now))) c.loop-more.invariant
