-- Bytes cut at the end of their first line.
use Rattle.std.proofs.Common.{◌≡◌, ℕ, ◌+◌, ◌-◌, ◌<◌, ◌≤◌, Bool, true, false, suc, zero, List, [], ◌∷◌, length, get_or, take, drop, Some, None, sym, refl, ap, ◌∙◌, add-one, arith}
use Rattle.std.specs.List.{position, position_or_len}
use Rattle.std.proofs.lemmas.Grind.{common_steps}
use Rattle.std.proofs.lemmas.List.{take_rest, length-drop}
use Rattle.std.proofs.lemmas.List.Quantifiers.{position-Some}
use Rattle.std.proofs.lemmas.List.Sums.{fails_before_first}
use Rattle.inspect.specs.Lines.{is_end, longer, cut_line}

at_end : (b : ℕ) (s : List ℕ) → is_end b ≡ true → cut_line (b ∷ s) ≡ Some ([], s)
at_end b s e = ap (λ (t : Bool). elim t [ true ↦ Some ([], s) | false ↦ longer b (cut_line s) ]) e

no_end : (b : ℕ) (s : List ℕ) → is_end b ≡ false → cut_line (b ∷ s) ≡ longer b (cut_line s)
no_end b s e = ap (λ (t : Bool). elim t [ true ↦ Some ([], s) | false ↦ longer b (cut_line s) ]) e

cut_there : (s : List ℕ) (i : ℕ) → i < length s → is_end (get_or s i 0) ≡ true → ((k : ℕ) → k < i → is_end (get_or s k 0) ≡ false) → Some (take i s, drop (i + 1) s) ≡ cut_line s
cut_there [] i h is before = absurd (omega arith)
cut_there (b ∷ s) zero h is before = sym (at_end b s is)
cut_there (b ∷ s) (suc i) h is before =
    let behind : drop (suc i + 1) (b ∷ s) ≡ drop (i + 1) s = ap (λ (k : ℕ). drop k (b ∷ s)) (add-one (suc i)) ∙ ap (λ (k : ℕ). drop k s) (sym (add-one i)) in
    ap (λ (x : List ℕ). Some (b ∷ take i s, x)) behind ∙ ap (longer b) (cut_there s i (omega arith) is (λ k l. before (suc k) (omega arith))) ∙ sym (no_end b s (before zero (omega arith)))

cut_nowhere : (s : List ℕ) → ((k : ℕ) → k < length s → is_end (get_or s k 0) ≡ false) → None ≡ cut_line s
cut_nowhere [] before = refl
cut_nowhere (b ∷ s) before = ap (longer b) (cut_nowhere s (λ k l. before (suc k) (omega arith))) ∙ sym (no_end b s (before zero (omega arith)))

pub ends_here : (s : List ℕ) (i : ℕ) → position is_end s ≡ Some i → Some (take i s, take (length s - (i + 1)) (drop (i + 1) s)) ≡ cut_line s
ends_here s i e =
    let found = position-Some is_end s i 0 e in
    ap (λ (x : List ℕ). Some (take i s, x)) (take_rest s (i + 1)) ∙ cut_there s i found.0 found.1 found.2

pub ends_nowhere : (s : List ℕ) → position is_end s ≡ None → None ≡ cut_line s
ends_nowhere s e =
    let nowhere : length s ≤ position_or_len is_end s = grind (arith, common_steps) in
    cut_nowhere s (λ k l. fails_before_first is_end s k 0 (omega arith))

pub less_left : (s : List ℕ) (i : ℕ) → position is_end s ≡ Some i → length (take (length s - (i + 1)) (drop (i + 1) s)) < length s
less_left s i e =
    let found = position-Some is_end s i 0 e in
    let k = ap (λ (x : List ℕ). length x) (take_rest s (i + 1)) in
    let n = length-drop (i + 1) s in
    omega (arith, found.0, k, n)
