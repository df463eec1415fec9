use Rattle.std.proofs.Common.{ℕ, List, ap, ◌∙◌}
use Rattle.std.specs.List.{slice_get}
use Rattle.line.specs.Lines.{fields_of}
use Rattle.line.specs.Fields.{raw_fields}
use Rattle.line.proofs.Indices.{raw_before}
use Rattle.line.proofs.message.Message.raw_field.Goals as goal

pub returns : goal.returns
returns c =
    let body = c.body-body.result.now in
    c.part_at.ensures
    ∙ ap (λ (fs : List (List ℕ)). slice_get fs c.args.index) (raw_before body c.in_ok-_first._first.now c.in_ok-_first.ensures)
    ∙ ap (λ (b : List ℕ). slice_get (raw_fields (fields_of b)) c.args.index) c.body-body.ensures
