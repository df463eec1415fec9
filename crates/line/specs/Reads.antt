-- What the steps of reading answer, by the words of a line's meaning.
use Rattle.std.specs.Prelude.{◌≡◌, ℕ, List, length, Some, None, Ok, Err, Option, Result}
use Rattle.std.specs.Borrow.{Bor}
use Rattle.std.specs.Option.{option_map}
use Rattle.line.specs.Forms.{Side, command, answer, Address}
use Rattle.line.specs.Lines.{Message, check_fault, check_value, fields_of}
use Rattle.line.specs.Meanings.{number_of, place_of, body_fields}
use Rattle.line.specs.declared.fault.Fault.{Fault}

abbrev pub behind : Option (Bor (List ℕ)) → Option (List ℕ)
behind o = option_map (λ x. x.now) o

-- a check is right by its value, or wrong by number and place: it stands behind the bytes that it sums
abbrev pub Checks : List ℕ → Option (Bor (List ℕ)) → Result (Option ℕ) Fault → Type 0
Checks summed check (Ok value) = (check_fault summed (behind check) ≡ None) × (value ≡ check_value (behind check))
Checks summed check (Err f) = (check_fault summed (behind check) ≡ Some (number_of f)) × (place_of f ≡ Some (length summed))

abbrev pub first_of : Option (List ℕ × List (List ℕ)) → Option (List ℕ)
first_of None = None
first_of (Some f) = Some f.0

-- the message of a body, from the parts around it
abbrev pub said : Side → Address → ℕ → List ℕ → Message
said side a m body = record { side = side; address = a; mark = m; fields = body_fields (fields_of body) }

abbrev pub if_command : Side → Option ℕ → Option ℕ
if_command command check = check
if_command answer check = None
