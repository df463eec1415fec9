use Rattle.std.proofs.Common.{cond, [], List, ◌∷◌, ◌++◌, ap, ◌∙◌, arith, ◌==◌}
use Rattle.escape.specs.Tokens.{Token}
use Rattle.escape.specs.Spelling.{spelled}
use Rattle.escape.proofs.Walking.{shorter}
use Rattle.writer.specs.Rewriting.{respelt}
use Rattle.writer.proofs.Growing.{piece_more}
use Rattle.writer.proofs.page.Writer.push_body.Goals as goal

pub loop-b-smaller-in-Plain : goal.loop-b-smaller-in-Plain
loop-b-smaller-in-Plain c = shorter c.loop-b.rest.now _ _ c.in-Plain.ensures (omega arith)

pub loop-b-preserved-in-Plain : goal.loop-b-preserved-in-Plain
loop-b-preserved-in-Plain c =
    let i = c.loop-b.invariant in
    let b = c.in-Plain.b in
    piece_more _ _ _ i.0 (cond (b == 58) (58 ∷ []) (spelled b)) _ _ (ap (λ (ts : List Token). i.0 ++ respelt ts) c.in-Plain.ensures ∙ i.1) i.2 c.push_byte.ensures

pub loop-b-smaller : goal.loop-b-smaller
loop-b-smaller c = shorter c.loop-b.rest.now _ _ c.in-Escape.ensures (omega arith)

pub loop-b-preserved : goal.loop-b-preserved
loop-b-preserved c =
    let i = c.loop-b.invariant in
    piece_more _ _ _ i.0 (spelled c.in-Escape.b) _ _ (ap (λ (ts : List Token). i.0 ++ respelt ts) c.in-Escape.ensures ∙ i.1) i.2 c.push_byte-in-Escape.ensures
