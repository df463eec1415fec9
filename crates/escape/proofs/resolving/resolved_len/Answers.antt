use Rattle.std.proofs.Common.{inl, arith}
use Rattle.escape.proofs.ByTokens.{meant_fits}
use Rattle.escape.proofs.resolving.resolved_len.Goals as goal

pub count-requires-clause-fits : goal.count-requires-clause-fits
count-requires-clause-fits c = let few = meant_fits c.args.field.now in inl (omega arith)
