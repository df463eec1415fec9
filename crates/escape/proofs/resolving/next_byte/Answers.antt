use Rattle.std.proofs.Common.{arith}
use Rattle.escape.proofs.Walking.{shorter}
use Rattle.escape.proofs.resolving.next_byte.Goals as goal

pub returns-in-Plain-clause-shorter : goal.returns-in-Plain-clause-shorter
returns-in-Plain-clause-shorter c = shorter c.args.s.now c.in-Plain.rest.now _ c.in-Plain.ensures (omega arith)

pub returns-in-Escape-clause-shorter : goal.returns-in-Escape-clause-shorter
returns-in-Escape-clause-shorter c = shorter c.args.s.now c.in-Escape.rest.now _ c.in-Escape.ensures (omega arith)
