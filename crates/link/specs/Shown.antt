-- What is shown of an answer of pump.
use Rattle.std.specs.Prelude.{ℕ, List, ◌++◌, codes, decimal}
use Rattle.std.specs.Option.{unwrap_or}
use Rattle.line.specs.Meanings.{number_of, place_of}
use Rattle.link.specs.declared.pumped.Kind.{Kind}
use Rattle.link.specs.declared.pumped.Kind.TheVariants.{Fault, Event, Notice, Stray, Misplaced, More, Last, Late, LateLast}
use Rattle.link.specs.declared.pumped.Pumped.{Pumped}
use Rattle.link.specs.declared.pumped.Pumped.TheVariants.{Dry, Line}

-- two numbers, with a space between them
abbrev pub two_numbers : ℕ → ℕ → List ℕ
two_numbers a b = decimal a ++ (codes " " ++ decimal b)

-- a line of that length, told as the kind; a fault of a line always has a place
abbrev pub kind_text : Kind → ℕ → List ℕ
kind_text (Fault f) n = codes "FAULT " ++ (decimal (number_of f) ++ (codes " " ++ two_numbers (unwrap_or (place_of f) 0) n))
kind_text Event n = codes "EVENT " ++ decimal n
kind_text Notice n = codes "NOTICE " ++ decimal n
kind_text Stray n = codes "STRAY " ++ decimal n
kind_text Misplaced n = codes "MISPLACED " ++ decimal n
kind_text (More k) n = codes "MORE " ++ two_numbers n k
kind_text (Last k) n = codes "LAST " ++ two_numbers n k
kind_text (Late k) n = codes "LATE " ++ two_numbers n k
kind_text (LateLast k) n = codes "LATE LAST " ++ two_numbers n k

abbrev pub pumped_text : Pumped → List ℕ
pumped_text Dry = codes "DRY"
pumped_text (Line k n) = kind_text k n
