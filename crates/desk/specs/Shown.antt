-- The row that is shown of a call.
use Rattle.std.specs.Prelude.{ℕ, Bool, true, false, List, [], ◌∷◌, ◌++◌, take, Some, None, codes, decimal, Option}
use Rattle.escape.specs.Spelling.{spelling}
use Rattle.line.specs.Meanings.{number_of, place_of, layer_of}
use Rattle.line.specs.declared.fault.Fault.{Fault}
use Rattle.line.specs.declared.fault.Layer.{Layer}
use Rattle.line.specs.Shown.{layer_name}
use Rattle.link.specs.Shown.{pumped_text}
use Rattle.numbers.specs.Slots.{outcome_name}
use Rattle.desk.specs.declared.row.Row.{Row}
use Rattle.desk.specs.declared.row.Row.TheVariants.{Ticket, Refused, Pumped, Settled, NoTicket, Reset, Arrived, Departed, Clear, Unknown}

-- the number, and the place and layer if the fault has both
abbrev pub refused_at : ℕ → Option ℕ → Option Layer → List ℕ
refused_at number None layer = codes "REFUSED " ++ decimal number
refused_at number (Some place) None = codes "REFUSED " ++ decimal number
refused_at number (Some place) (Some layer) = codes "REFUSED " ++ (decimal number ++ (codes " " ++ (decimal place ++ (codes " " ++ layer_name layer))))

abbrev pub refusal_text : Fault → List ℕ
refusal_text f = refused_at (number_of f) (place_of f) (layer_of (number_of f))

-- the bytes that departed, behind a space if there are any
abbrev pub departed_text : List ℕ → List ℕ
departed_text [] = codes "DEPARTED"
departed_text (b ∷ bs) = codes "DEPARTED " ++ spelling (b ∷ bs)

abbrev pub clear_text : Bool → List ℕ
clear_text true = codes "CLEAR yes"
clear_text false = codes "CLEAR no"

-- what departed stands at the buffer's front
abbrev pub row_text : Row → List ℕ → List ℕ
row_text (Ticket n) buffer = codes "TICKET " ++ decimal n
row_text (Refused f) buffer = refusal_text f
row_text (Pumped p) buffer = pumped_text p
row_text (Settled o) buffer = outcome_name o
row_text NoTicket buffer = codes "NO TICKET"
row_text (Reset n) buffer = codes "RESET " ++ decimal n
row_text (Arrived n) buffer = codes "ARRIVED " ++ decimal n
row_text (Departed n) buffer = departed_text (take n buffer)
row_text (Clear value) buffer = clear_text value
row_text Unknown buffer = codes "?"
