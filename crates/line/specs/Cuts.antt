-- What cutting a line into its parts answers.
use Rattle.std.specs.Prelude.{◌≡◌, ℕ, ◌≤◌, List, length, take, Some, None, Ok, Err, Option, Result}
use Rattle.escape.specs.Tokens.{parts}
use Rattle.line.specs.Forms.{Side}
use Rattle.line.specs.Lines.{Parts as Meant, parted, check_place, body_place, check_value}
use Rattle.line.specs.Meanings.{check_said}
use Rattle.line.specs.Reads.{behind, if_command}
use Rattle.line.specs.declared.fault.Fault.{Fault}
use Rattle.line.specs.declared.message.Message.{Message}
use Rattle.line.specs.declared.reading.Parts.{Parts}

abbrev pub parts_meant : Parts → Meant
parts_meant p = record { address = p.address.now; mark = p.mark.now; body = p.body.now; check = behind p.check }

-- with a check, what it sums ends where it begins
abbrev pub Sums : List ℕ → ℕ → List ℕ → Option (List ℕ) → Type 0
Sums line place summed None = Unit {0}
Sums line place summed (Some c) = (summed ≡ take place line) × (length summed ≡ place)

abbrev pub Cut : Side → List ℕ → Option Parts → Type 0
Cut side line None = None ≡ parted side (parts 47 line)
Cut side line (Some p) =
    (Some (parts_meant p) ≡ parted side (parts 47 line))
    × Sums line (check_place (parts_meant p)) p.summed.now (behind p.check)
    × (body_place (parts_meant p) ≤ length line)

-- the parts are those of a line that is not too long
abbrev pub Summed : Meant → List ℕ → Option (List ℕ) → Type 0
Summed p summed None = Unit {0}
Summed p summed (Some c) = length summed ≡ check_place p

abbrev pub Fits : Meant → List ℕ → Type 0
Fits p summed = (body_place p ≤ 1024) × Summed p summed p.check

-- ---- the check of a command is kept with its message
abbrev pub KeepsCheck : Side → Meant → Result Message Fault → Type 0
KeepsCheck side p (Ok m) = check_said m ≡ if_command side (check_value p.check)
KeepsCheck side p (Err f) = Unit {0}

abbrev pub stated : Option Meant → Option ℕ
stated None = None
stated (Some p) = check_value p.check

abbrev pub KeepsStated : Side → List ℕ → Result Message Fault → Type 0
KeepsStated side line (Ok m) = check_said m ≡ if_command side (stated (parted side (parts 47 line)))
KeepsStated side line (Err f) = Unit {0}
