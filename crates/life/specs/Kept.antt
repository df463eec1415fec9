-- The theorems.
use Rattle.std.specs.Prelude.{ℕ, List, ◌∷◌, ◌++◌}
use Rattle.line.specs.Lines.{Message}
use Rattle.life.specs.Codec.{Codec, Lawful}
use Rattle.life.specs.Answers.{WholeAnswer}
use Rattle.life.specs.Calls.{History}
use Rattle.life.specs.Promises.{Promises}
use Rattle.life.specs.Link.{State, HeldSlot, Leads}

-- the promises, of a history that leads from `first` to s
abbrev pub Promised : Codec → State → History → State → Type 0
Promised K first h s = Promises K first.link first.port (λ n. HeldSlot (s.slots n)) h

-- every history that leads from the making of a link to a state keeps the promises
abbrev pub Kept : Type 0
Kept = (K : Codec) → Lawful K → (first s : State) (h : History) → Leads K first h s → Promised K first h s

-- no whole answer is a beginning of a longer one
abbrev pub NoLonger : Type 0
NoLonger = (K : Codec) (command : Message) (ls : List (List ℕ)) (l : List ℕ) (rest : List (List ℕ))
    → WholeAnswer K command ls → WholeAnswer K command (ls ++ (l ∷ rest)) → ⊥
