use Rattle.std.proofs.Common.{refl}
use Rattle.std.specs.Option.{option_copied}
use Rattle.line.specs.Meanings.{message_of}
use Rattle.numbers.specs.Ten.{slots_of}
use Rattle.link.proofs.RightKinds.{line_marked, tells_fault}
use Rattle.link.proofs.telling.kind_of.Goals as goal

pub tell-requires : goal.tell-requires
tell-requires c = line_marked (option_copied c.args.line) (message_of c.in-Ok.message) c.in-Ok.ensures

pub returns-in-Err : goal.returns-in-Err
returns-in-Err c = record {
  told = λ p e. tells_fault (slots_of c.args.numbers.now) (slots_of c.args.numbers.now) (option_copied c.args.line) p e c.in-Err.fault c.in-Err.ensures;
  recent = refl;
}
