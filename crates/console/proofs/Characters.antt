-- Bytes shown one by one.
use Rattle.std.proofs.Common.{◌≡◌, ℕ, ◌+◌, ◌<◌, ◌≤◌, List, [], ◌∷◌, ◌++◌, length, get_or, take, sym, refl, ap, ◌∙◌, append_assoc, append-nil, take_all}
use lib.Utf8.{encode}
use Rattle.std.proofs.lemmas.List.{take_more}
use Rattle.console.specs.Shown.{characters}

joined : (a b : List ℕ) → characters (a ++ b) ≡ characters a ++ characters b
joined [] b = refl
joined (x ∷ a) b = ap (λ (l : List ℕ). encode x ++ l) (joined a b) ∙ sym (append_assoc (encode x) (characters a) (characters b))

pub one_more : (s : List ℕ) (i : ℕ) → i < length s → characters (take i s) ++ encode (get_or s i 0) ≡ characters (take (i + 1) s)
one_more s i h = sym (ap characters (take_more s i 0 h) ∙ joined (take i s) (get_or s i 0 ∷ []) ∙ ap (λ (l : List ℕ). characters (take i s) ++ l) (append-nil (encode (get_or s i 0))))

pub all_shown : (s : List ℕ) (i : ℕ) → length s ≤ i → characters (take i s) ≡ characters s
all_shown s i h = ap characters (take_all i s h)
