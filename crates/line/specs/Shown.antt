-- What is shown of a layer.
use Rattle.std.specs.Prelude.{ℕ, List, codes}
use Rattle.line.specs.declared.fault.Layer.{Layer}
use Rattle.line.specs.declared.fault.Layer.TheVariants.{Line, Parts, Body, Record}

abbrev pub layer_name : Layer → List ℕ
layer_name Line = codes "line"
layer_name Parts = codes "parts"
layer_name Body = codes "body"
layer_name Record = codes "record"
