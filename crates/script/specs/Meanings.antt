-- What the values of the code mean.
use Rattle.std.specs.Prelude.{ℕ, List, Option}
use Rattle.std.specs.Borrow.{Bor}
use Rattle.std.specs.Option.{option_map}
use Rattle.script.specs.Script.{submit, pump, settle, settle_other, reset, arrive, depart, clear}
use Rattle.script.specs.Script.{Call as Asked}
use Rattle.script.specs.declared.call.Call.{Call}
use Rattle.script.specs.declared.call.Call.TheVariants.{Submit, Pump, Settle, SettleOther, Reset, Arrive, Depart, Clear}

abbrev pub asked : Call → Asked
asked (Submit address body) = submit address.now body.now
asked (Pump n) = pump n
asked (Settle n) = settle n
asked SettleOther = settle_other
asked Reset = reset
asked (Arrive text) = arrive text.now
asked (Depart n) = depart n
asked (Clear value) = clear value

abbrev pub behind : Option (Bor (List ℕ)) → Option (List ℕ)
behind o = option_map (λ x. x.now) o

abbrev pub split : Bor (List ℕ) × Option (Bor (List ℕ)) → List ℕ × Option (List ℕ)
split p = (p.0.now, behind p.1)
