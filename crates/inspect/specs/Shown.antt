-- What is shown of a fault.
use Rattle.std.specs.Prelude.{ℕ, List, [], ◌++◌, Some, None, codes, decimal, Option}
use Rattle.std.specs.Option.{unwrap_or}
use Rattle.line.specs.Meanings.{number_of, place_of, layer_of}
use Rattle.line.specs.declared.fault.Fault.{Fault}
use Rattle.line.specs.declared.fault.Layer.{Layer}
use Rattle.line.specs.Shown as line

-- the name of the layer that turned a line away, if one did
abbrev pub layer_name : Option Layer → List ℕ
layer_name None = []
layer_name (Some layer) = line.layer_name layer

abbrev pub fault_text : Fault → List ℕ
fault_text f = codes "FAULT " ++ (decimal (number_of f) ++ (codes " " ++ (decimal (unwrap_or (place_of f) 0) ++ (codes " " ++ layer_name (layer_of (number_of f))))))
