use Rattle.request.proofs.Puts.{lies_checked}
use Rattle.request.proofs.composing.put_check.Goals as goal

pub returns : goal.returns
returns c = λ was l o.
    let one = c.put-at.ensures.lies was l o in
    lies_checked was l _ _ _ c.put-at.result _ c.check_digits-check.ensures one (c.put.ensures.lies was _ one)
