use Rattle.std.proofs.Common.{subst, rules}
use Rattle.line.specs.Meanings.{side_of}
use Rattle.line.specs.Cuts.{Cut, parts_meant}
use Rattle.line.proofs.Tests.{is_invisible, is_broken, is_uncut, is_cut, keeps}
use Rattle.line.proofs.reading.read.Goals as goal

pub returns-in-Some : goal.returns-in-Some
returns-in-Some c = record { read = is_invisible (side_of c.args.side) c.args.line.now (search rules) c.in-Some.place c.in-Some.ensures; check = tt }

pub returns-in-Some-broken_at : goal.returns-in-Some-broken_at
returns-in-Some-broken_at c = record { read = is_broken (side_of c.args.side) c.args.line.now (search rules) c.in-Some-broken_at.place c.in_default.ensures c.in-Some-broken_at.ensures; check = tt }

pub returns-in_err-parts-clause-read : goal.returns-in_err-parts-clause-read
returns-in_err-parts-clause-read c =
    let side = side_of c.args.side in
    let cut = subst (Cut side c.args.line.now) c.in_err-parts.ensures.ok_part c.parts_of.ensures in
    let e = is_uncut side c.args.line.now (search rules) c.in_default.ensures c.in_default-broken_at.ensures cut in
    search rules

pub returns : goal.returns
returns c =
    let side = side_of c.args.side in
    let p = parts_meant c.in_ok-parts.parts in
    let cut = subst (Cut side c.args.line.now) c.in_ok-parts.ensures.ok_part c.parts_of.ensures in
    record {
      read = is_cut side c.args.line.now (search rules) p c.in_ok-parts.parts.summed.now _ c.in_default.ensures c.in_default-broken_at.ensures cut.0 cut.1 c.judge.ensures.read;
      check = keeps side c.args.line.now p c.judge.result cut.0 c.judge.ensures.check;
    }
