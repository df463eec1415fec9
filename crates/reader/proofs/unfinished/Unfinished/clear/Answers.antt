use Rattle.std.proofs.Common.{rules}
use Rattle.reader.specs.Unfinished.{part_of}
use Rattle.reader.proofs.unfinished.Unfinished.clear.Goals as goal

pub returns : goal.returns
unfolding part_of
returns c = search rules
