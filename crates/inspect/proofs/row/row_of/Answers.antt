use Rattle.std.proofs.Common.{◌-◌, length, take, drop}
use Rattle.line.specs.Meanings.{message_of, side_of}
use Rattle.inspect.proofs.Telling.{has_forms}
use Rattle.inspect.proofs.row.row_of.Goals as goal

pub message_row-requires : goal.message_row-requires
message_row-requires c =
    let line = c.args.line.now in
    (has_forms (side_of c.in-Some.side) (take (length line - 1) (drop 1 line)) (message_of c.in-Ok.message) c.in-Ok.ensures.read, c.requires)
