use Rattle.std.proofs.Common.{rules}
use Rattle.line.specs.Meanings.{message_of}
use Rattle.inspect.specs.Meanings.{kind_said}
use Rattle.inspect.proofs.Telling.{refused, within, tells}
use Rattle.inspect.proofs.row.message_row.Goals as goal

pub slice_bounds-result-end : goal.slice_bounds-result-end
slice_bounds-result-end c =
    let fits = within (message_of c.args.message.now) c.args.buffer.now c.rewrite.new.out c.in-Ok.len c.requires.0 c.requires.1 c.in-Ok.ensures.answer c.in-Ok.ensures.after in
    search rules

pub returns-in-Ok : goal.returns-in-Ok
returns-in-Ok c =
    tells (message_of c.args.message.now) c.args.buffer.now c.rewrite.new.out c.in-Ok.len c.requires.0 c.requires.1 c.in-Ok.ensures.answer c.in-Ok.ensures.after (kind_said c.kind_of.result) c.kind_of.ensures

pub returns-in-Err : goal.returns-in-Err
returns-in-Err c = refused (message_of c.args.message.now) _ c.requires.0 c.requires.1 c.in-Err.field-0 c.in-Err.ensures.answer
