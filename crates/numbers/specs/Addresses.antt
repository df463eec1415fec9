-- What a kept address means, and which addresses can be kept.
use Rattle.std.specs.Prelude.{ℕ, cond, List, length, Some, None, Option, ◌==◌}
use Rattle.line.specs.Forms.{Address}
use Rattle.numbers.specs.declared.address.Device.{Device}
use Rattle.numbers.specs.declared.address.Device.TheVariants.{Number, Serial}
use Rattle.numbers.specs.declared.address.CommandAddress.{CommandAddress}

abbrev pub device_of : Device → List ℕ
device_of (Number bytes) = bytes
device_of (Serial bytes) = bytes

abbrev pub address_of : CommandAddress → Address
address_of a = record { device = device_of a.device; zone = a.zone }

-- the device of a command has 2 bytes or 13
abbrev pub keepable_device : List ℕ → Option (List ℕ)
keepable_device d = cond (length d == 2) (Some d) (cond (length d == 13) (Some d) None)

abbrev pub with_zone : Option ℕ → Option (List ℕ) → Option Address
with_zone z None = None
with_zone z (Some d) = Some (record { device = d; zone = z })

abbrev pub keepable : Address → Option Address
keepable a = with_zone a.zone (keepable_device a.device)
