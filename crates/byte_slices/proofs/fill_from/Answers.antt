use Rattle.std.proofs.Common.{rules}
use Rattle.std.proofs.lemmas.List.{places}
use Rattle.byte_slices.proofs.Parts.{part_cut, part_gone}
use Rattle.byte_slices.proofs.fill_from.Goals as goal

pub returns : goal.returns
returns c = search (rules, part_cut, part_gone, places)
