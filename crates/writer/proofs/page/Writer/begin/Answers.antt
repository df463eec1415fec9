use Rattle.std.proofs.Common.{◌≡◌, ◌+◌, [], Some, Err, length, sym, ap, ◌∙◌, arith, rules}
use Rattle.std.specs.Option.{option_map}
use Rattle.line.specs.Forms.{address_of, is_first_field}
use Rattle.line.specs.Meanings.{side_of, placed}
use Rattle.writer.specs.Writing.{refusal}
use Rattle.writer.proofs.Growing.{lies_none}
use Rattle.writer.proofs.Fields.{fault_of}
use Rattle.writer.proofs.Opening.{mark_refuses, first_decides, head_forms, line_head_is, line_short, head_refused, length_decides, opened, never_too_long}
use Rattle.writer.proofs.page.Writer.begin.Goals as goal

pub returns-in_err-head-clause-called : goal.returns-in_err-head-clause-called
returns-in_err-head-clause-called c =
    let side = side_of c.args.side in
    let a = placed c.in_ok-address.address in
    let read : address_of side c.args.address.now ≡ Some a = sym c.address_in.ensures ∙ ap (option_map placed) c.in_ok-address.ensures.ok_part in
    let why = mark_refuses side a c.args.mark (is_first_field side c.args.first.now) c.in_err-head.field-0.0 c.in_err-head.ensures.answer in
    let e = head_refused side c.args.address.now c.args.first.now c.args.mark a read c.in_err-head.field-0.0 (length c.args.self.now.out.now) why in
    search rules

pub returns-in_err-takes-clause-called : goal.returns-in_err-takes-clause-called
returns-in_err-takes-clause-called c =
    let side = side_of c.args.side in
    let a = placed c.in_ok-address.address in
    let read : address_of side c.args.address.now ≡ Some a = sym c.address_in.ensures ∙ ap (option_map placed) c.in_ok-address.ensures.ok_part in
    let why = c.in_err-takes.ensures ∙ first_decides side a c.args.mark (Some c.args.first) c.in_ok-head.head c.in_ok-head.ensures.made c.in_ok-head.ensures.answer in
    let e = head_refused side c.args.address.now c.args.first.now c.args.mark a read c.in_err-takes.field-0.0 (length c.args.self.now.out.now) why in
    search rules

pub returns-in_err-fits : goal.returns-in_err-fits
returns-in_err-fits c =
    let side = side_of c.args.side in
    let a = placed c.in_ok-address.address in
    let read : address_of side c.args.address.now ≡ Some a = sym c.address_in.ensures ∙ ap (option_map placed) c.in_ok-address.ensures.ok_part in
    let none = c.in_ok-takes.ensures ∙ first_decides side a c.args.mark (Some c.args.first) c.in_ok-head.head c.in_ok-head.ensures.made c.in_ok-head.ensures.answer in
    let size = c.len.ensures.text ∙ ap length (line_head_is c.in_ok-head.head side a c.args.mark c.in_ok-head.ensures.made) in
    let n = c.len.result + length c.args.first.now + 1 + 3 in
    let room = length c.args.self.now.out.now in
    let e = fault_of c.in_err-fits.ensures n room (omega arith) (omega arith) ∙ length_decides side c.args.address.now c.args.first.now c.args.mark a read n room none (omega arith) in
    let is : c.from_residual-in_err-fits.result ≡ Err c.in_err-fits.field-0.0 = search rules in
    record { called = search rules; short = search rules; never_long = never_too_long side c.args.address.now c.args.first.now c.args.mark (length c.args.self.now.out.now) _ (ap refusal is ∙ e) }

pub returns : goal.returns
returns c =
    let side = side_of c.args.side in
    let a = placed c.in_ok-address.address in
    let was = c.args.self.now.out.now in
    let read : address_of side c.args.address.now ≡ Some a = sym c.address_in.ensures ∙ ap (option_map placed) c.in_ok-address.ensures.ok_part in
    let none = c.in_ok-takes.ensures ∙ first_decides side a c.args.mark (Some c.args.first) c.in_ok-head.head c.in_ok-head.ensures.made c.in_ok-head.ensures.answer in
    let size = c.len.ensures.text ∙ ap length (line_head_is c.in_ok-head.head side a c.args.mark c.in_ok-head.ensures.made) in
    let n = c.len.result + length c.args.first.now + 1 + 3 in
    let answer = fault_of c.in_ok-fits.ensures n (length was) (omega arith) (omega arith) ∙ length_decides side c.args.address.now c.args.first.now c.args.mark a read n (length was) none (omega arith) in
    let forms = head_forms side a c.args.mark (is_first_field side c.args.first.now) none in
    record {
      called = record {
        answer = answer;
        state = opened side c.args.address.now c.args.first.now c.args.mark a read was _ _ c.in_ok-head.head c.in_ok-head.ensures.made none (omega arith)
            (c.push.ensures.lies was _ (c.push_all.ensures.lies was _ (c.push_head.ensures.lies was [] (lies_none was))));
        bare = c.is_answer-self.ensures;
        lender = c.push.ensures.lender ∙ c.push_all.ensures.lender ∙ c.push_head.ensures.lender;
      };
      short = omega (arith, size, c.push.ensures.len, c.push_all.ensures.len, c.push_head.ensures.len, line_short side c.args.address.now c.args.first.now c.args.mark a read forms.1);
      never_long = never_too_long side c.args.address.now c.args.first.now c.args.mark (length was) _ answer;
    }
