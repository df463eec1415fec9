use Rattle.std.proofs.Common.{refl}
use Rattle.line.specs.Meanings.{message_of}
use Rattle.numbers.specs.Ten.{slots_of}
use Rattle.numbers.specs.Slots.{kind_of as matched_kind}
use Rattle.link.specs.Meanings.{kind_of}
use Rattle.link.proofs.RightKinds.{tells_unnumbered, tells_numbered}
use Rattle.link.proofs.telling.tell.Goals as goal

pub returns-in_default : goal.returns-in_default
returns-in_default c = record {
  told = tells_unnumbered (message_of c.args.message.now) (slots_of c.args.numbers.now) (kind_of c.kind_without_number.result) c.mark-mark.result c.number_in.result
      c.requires c.mark-mark.ensures c.number_in.ensures c.in_default.is c.kind_without_number.ensures;
  recent = refl;
}

pub returns : goal.returns
returns c = record {
  told = tells_numbered (message_of c.args.message.now) (slots_of c.args.numbers.now) (slots_of c.told.new.self)
      (matched_kind c.in-Some.number c.told.result) (kind_of c.kind_with_number.result) c.mark-mark.result c.in-Some.number c.number_in.result
      c.mark-mark.ensures c.number_in.ensures c.in-Some.is c.told.ensures.life c.kind_with_number.ensures;
  recent = c.told.ensures.recent;
}
