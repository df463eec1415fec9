use Rattle.std.proofs.Common.{length-set, sym, ◌∙◌, div-one}
use Rattle.std.proofs.lemmas.List.{length-replicate}
use Rattle.numeral.proofs.Places.{none_written, one_place, one_less}
use Rattle.numeral.proofs.writing.digits.Goals as goal

pub loop-i-init : goal.loop-i-init
loop-i-init g c = record { size = length-replicate g.row.N 48; written = none_written g.row.N c.args.n; left = sym (div-one c.args.n) }

pub loop-i-preserved : goal.loop-i-preserved
loop-i-preserved g c =
    let k = c.loop-i in
    let below = c.loop-i-test.true in
    record {
      size = length-set k.out _ _ ∙ k.invariant.size;
      written = one_place g.row.N k.i c.args.n k.rest k.out below k.invariant.size k.invariant.written k.invariant.left;
      left = one_less k.i c.args.n k.rest k.invariant.left;
    }
