use Rattle.std.proofs.Common.{◌≡◌, ◌^◌, ◌<◌, drop}
use Rattle.numeral.specs.Numbers.{spelled_on}
use Rattle.numeral.proofs.reading.value_of.Given as goal

-- what is left gives the number
abbrev pub invariant-loop-d : goal.invariant-loop-d
invariant-loop-d l = (l.n < 10 ^ l.d-index) × (spelled_on l.n (drop l.d-index l.digits) ≡ spelled_on 0 l.digits)
