use Rattle.std.proofs.Common.{◌+◌, length, refl, arith}
use Rattle.writer.specs.Canonical.{body_text}
use Rattle.writer.specs.Writing.{unclosed, behind_all}
use Rattle.writer.proofs.Fields.{added_all, all_room, fault_of}
use Rattle.writer.proofs.page.Writer.add_all.Goals as goal

pub returns : goal.returns
returns c =
    let fs = behind_all c.args.fields.now in
    let room = length c.args.self.now.out.now in
    let n = c.in_ok-len.ensures in
    record {
      answer = all_room c.args.self.now.len room fs (omega arith) (fault_of c.in_ok-fits.ensures (c.args.self.now.len + length (body_text fs) + 3) room (omega (arith, n.0)) (omega arith));
      state = λ was m o. added_all was c.args.self.now.out.now c.push_fields.new.self.out.now c.args.self.now.len c.push_fields.new.self.len m fs c.push_fields.ensures.bytes (omega arith) o (c.push_fields.ensures.pushed.lies was (unclosed m) o.lies);
      bare = refl;
      lender = c.push_fields.ensures.pushed.lender;
    }
