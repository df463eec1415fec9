use Rattle.std.proofs.Common.{rules}
use Rattle.inspect.proofs.Cutting.{ends_here, ends_nowhere, less_left}
use Rattle.inspect.proofs.lines.next_line.Goals as goal

pub returns-in_err-end : goal.returns-in_err-end
returns-in_err-end c = rw c.from_residual.ensures (record { cut = ends_nowhere c.args.bytes.now (search rules); shorter = tt })

pub returns : goal.returns
returns c = record { cut = ends_here _ _ (search rules); shorter = less_left _ _ (search rules) }
