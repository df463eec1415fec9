use Rattle.std.proofs.Common.{rules}
use Rattle.serial.specs.Queues.{held}
use Rattle.serial.proofs.queue.Queue.empty.Goals as goal

pub returns : goal.returns
unfolding held
returns c = search (rules)
