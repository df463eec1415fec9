use Rattle.line.specs.Forms.{answer}
use Rattle.writer.specs.Writing.{begun}
use Rattle.record.proofs.Backs.{alone_begun}
use Rattle.record_tests.proofs.status_line.Goals as goal

pub returns-clause-back : goal.returns-clause-back
returns-clause-back c =
    let m = begun answer c.args.address.now c.args.mark c.args.status.now in
    c.in_ok-write.ensures.back m (alone_begun c.args.address.now c.args.status.now c.args.mark)
