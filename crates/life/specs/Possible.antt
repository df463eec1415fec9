-- What the theorems suppose can be met: there is a lawful codec, and a history with an honest player in which a command is
-- submitted, answered, handed to its ticket and settled.
use Rattle.std.specs.Prelude.{[], ◌∷◌}
use Rattle.line.specs.Lines.{Message, meant}
use Rattle.life.specs.Codec.{Codec, Lawful}
use Rattle.life.specs.Calls.{last, answered, answer_line, submitted, dry, handed, settled, arrived, departed, emitted, History}
use Rattle.life.specs.Player.{Honest}
use Rattle.life.specs.Link.{State, Leads}

-- the newest entry first: the command's line is the byte 65, and so is the answer's, which arrives in two pieces
abbrev pub one_command : Message → History
one_command m =
    dry ∷ settled 7 0 answered ∷ handed (last 0) (65 ∷ []) (meant m) ∷ arrived (13 ∷ []) ∷ arrived (65 ∷ [])
    ∷ emitted (answer_line 0 (65 ∷ []) 13) ∷ departed (65 ∷ 13 ∷ []) ∷ submitted 0 m ∷ []

abbrev pub Possible : Type 0
Possible = (K : Codec) × Lawful K × (m : Message) × (first : State) × (s : State)
    × (Leads K first (one_command m) s × Honest K first.port (one_command m))
