use Rattle.std.proofs.Common.{◌∙◌, rules}
use Rattle.script.proofs.Turns.{valued_none, valued_all}
use Rattle.script.proofs.words.size.Goals as goal

pub returns-in_err-value : goal.returns-in_err-value
returns-in_err-value c = c.from_residual.ensures ∙ valued_none c.args.digits.now c.loop-d.d-index c.loop-d.value c.loop-d.invariant.1 (search rules) c.in_err-value.ensures.value

pub returns : goal.returns
returns c = valued_all c.args.digits.now c.loop-d.d-index c.loop-d.value c.loop-d.invariant.1 (search rules) (search rules)
