use Rattle.std.proofs.Common.{rules}
use Rattle.serial.specs.Queues.{held}
use Rattle.serial.proofs.Rings.{length_ring, ring_put}
use Rattle.serial.proofs.queue.Queue.put.Goals as goal

pub returns : goal.returns
unfolding held
returns c =
    let p = ring_put c.args.self.now.bytes c.put_round.new.bytes c.args.src.now c.args.self.now.head c.args.self.now.len c.min-k.result (search rules) c.put_round.ensures in
    record { count = search (rules, length_ring); holds = p.0; grown = p.1 }
