-- Where a line ends, and whether the first line asks for line control.
use Rattle.std.proofs.Common.{◌≡◌, ℕ, ◌+◌, ◌-◌, Bool, true, false, nat_eq, List, length, take, drop, Some, Option, codes, Bor, sym, ap, ◌∙◌, rules}
use Rattle.std.specs.Bool.{then_some}
use Rattle.std.specs.Cmp.Lexicographic.{same_text, pointwise}
use Rattle.std.proofs.lemmas.List.{take_rest}
use Rattle.desk.specs.Lines.{Ends, without_return, FirstLine, ended, Opens}

pub first_ended : (s line rest : List ℕ) (i : ℕ) → Ends s (Some i) → line ≡ without_return (take i s) → rest ≡ take (length s - (i + 1)) (drop (i + 1) s) → FirstLine s line rest
first_ended s line rest i e l r = ended i e l (r ∙ take_rest s (i + 1))

opens_by : (s line : List ℕ) (rest : Bor (List ℕ)) (b : Bool) → b ≡ pointwise nat_eq line (codes "port controlled") → FirstLine s line rest.now → Opens s (then_some b rest)
opens_by s line rest true e h = rw (sym (same_text line _ e)) h
opens_by s line rest false e h = search rules

pub opens : (s line word : List ℕ) (rest : Bor (List ℕ)) (b : Bool) (o : Option (Bor (List ℕ))) → o ≡ then_some b rest → b ≡ pointwise nat_eq line word → word ≡ codes "port controlled" → FirstLine s line rest.now → Opens s o
opens s line word rest b o is e w h = rw is (opens_by s line rest b (e ∙ ap (pointwise nat_eq line) w) h)
