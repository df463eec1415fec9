-- What the values of the code mean, in the words of a link's whole life: every case of each enum.
use Rattle.std.specs.Prelude.{ℕ, true, Some, None, Option}
use Rattle.line.specs.Lines.{Message}
use Rattle.life.specs.Answers.{start, within, not_next, final, onward, next}
use Rattle.life.specs.Answers.{Place as Placed, Step as Stepped}
use Rattle.numbers.specs.Ours.{ours}
use Rattle.numbers.specs.declared.listing.Listing.{Listing}
use Rattle.numbers.specs.declared.listing.Step.{Step}
use Rattle.numbers.specs.declared.listing.Step.TheVariants.{NotNext, Final, Onward}

-- the start of an answer, or a place in its listing
abbrev pub place_of : Option Listing → Placed
place_of None = start
place_of (Some listing) = within listing.done listing.total

abbrev pub step_of : Step → Stepped
step_of NotNext = not_next
step_of Final = final
step_of (Onward listing) = onward (place_of (Some listing))

-- in the answer to BROWSE, at its start and within a listing
abbrev pub first_step : Message → Stepped
first_step m = next ours true start m

abbrev pub result_step : ℕ → ℕ → Message → Stepped
result_step done total m = next ours true (within done total) m
