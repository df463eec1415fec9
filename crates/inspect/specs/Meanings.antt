-- What the values of the code mean.
use Rattle.std.specs.Prelude.{ℕ, ◌<◌, List, length, Some, None, Option}
use Rattle.std.specs.Borrow.{Bor}
use Rattle.std.specs.Option.{option_map, unwrap_or}
use Rattle.line.specs.Forms.{Side as Said}
use Rattle.line.specs.Meanings.{side_of, number_of, place_of}
use Rattle.line.specs.declared.message.Side.{Side}
use Rattle.inspect.specs.Rows.{commands, answers, event, notice, unknown, fault, unsendable, told}
use Rattle.inspect.specs.Rows.{Kind as Kinds, Row as Rows}
use Rattle.inspect.specs.declared.row.Kind.{Kind}
use Rattle.inspect.specs.declared.row.Kind.TheVariants.{Command, Answer, Event, Notice}
use Rattle.inspect.specs.declared.row.Row.{Row}
use Rattle.inspect.specs.declared.row.Row.TheVariants.{Unknown, Fault, Unsendable, Meant}

abbrev pub cut_off : Option (Bor (List ℕ) × Bor (List ℕ)) → Option (List ℕ × List ℕ)
cut_off o = option_map (λ p. (p.0.now, p.1.now)) o

-- what is left is less than there was
abbrev pub Shorter : List ℕ → Option (Bor (List ℕ) × Bor (List ℕ)) → Type 0
Shorter s None = Unit {0}
Shorter s (Some p) = length p.1.now < length s

abbrev pub side_said : Option Side → Option Said
side_said o = option_map side_of o

abbrev pub kind_said : Kind → Kinds
kind_said Command = commands
kind_said Answer = answers
kind_said Event = event
kind_said Notice = notice

-- a fault of a line always has a place
abbrev pub row_said : Row → Rows
row_said Unknown = unknown
row_said (Fault f) = fault (number_of f) (unwrap_or (place_of f) 0)
row_said Unsendable = unsendable
row_said (Meant k line) = told (kind_said k) line.now
