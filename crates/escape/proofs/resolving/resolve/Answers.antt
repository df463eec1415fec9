use Rattle.std.proofs.Common.{length, sym, ap, ◌∙◌, arith}
use Rattle.escape.specs.Tokens.{resolved}
use Rattle.escape.proofs.Fronting.{laid, laid_next, laid_all, wrote}
use Rattle.escape.proofs.resolving.resolve.Goals as goal

pub loop-i-preserved : goal.loop-i-preserved
loop-i-preserved c =
    let h = c.in-Some.ensures.steps in
    let n = ap length h.0 in (
      laid_next c.loop-i.out _ (resolved c.next.new.self.iter.0.now) c.loop-i.i-iterator.count c.in-Some.i c.next.new.self.count c.in-Some.b h.0 h.1 h.2 (omega arith)
          ∙ c.loop-i.invariant.0,
      omega arith,
    )

pub returns-clause-after : goal.returns-clause-after
returns-clause-after c =
    let h = c.in-None.ensures.steps in
    sym (laid_all c.loop-i.out c.loop-i.i-iterator.count) ∙ ap (laid c.loop-i.out c.loop-i.i-iterator.count) (sym h.0.0)
    ∙ c.loop-i.invariant.0 ∙ wrote (resolved c.args.field.now) c.args.out.now (omega arith)
