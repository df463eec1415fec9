use Rattle.std.proofs.Common.{rules}
use Rattle.numbers.proofs.Standing.{standing, reset_more}
use Rattle.numbers.proofs.ten.Numbers.reset.Goals as goal

pub loop-slot-preserved : goal.loop-slot-preserved
loop-slot-preserved c = record {
  ten = search rules;
  upto = reset_more (standing c.args.self.now.slots) c.loop-slot.slot-items c.loop-slot.slot-index c.loop-slot.count c.opens-count.result c.reset.result (search rules) (search rules) c.loop-slot.invariant.upto c.opens-count.ensures c.reset.ensures;
}
