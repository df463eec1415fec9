use Rattle.std.proofs.Common.{rules}
use Rattle.serial.specs.Queues.{held}
use Rattle.serial.proofs.Rings.{length_ring, ring_front, ring_rest}
use Rattle.serial.proofs.queue.Queue.get.Goals as goal

pub returns : goal.returns
unfolding held
returns c = search (rules, length_ring, ring_front, ring_rest)
