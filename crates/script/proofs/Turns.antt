-- A line cut at its first space, and the turns of the loop over a number's digits.
use Rattle.std.proofs.Common.{◌≡◌, ℕ, ◌+◌, ◌-◌, ◌<◌, ◌≤◌, Bool, true, false, suc, zero, List, [], ◌∷◌, length, get_or, take, drop, Some, None, Option, sym, refl, ap, ◌∙◌, add-one, arith}
use Rattle.std.specs.List.{position, position_or_len}
use Rattle.std.proofs.lemmas.Grind.{common_steps}
use Rattle.std.proofs.lemmas.List.{drop_more, drop_all, take_rest}
use Rattle.std.proofs.lemmas.List.Quantifiers.{position-Some}
use Rattle.std.proofs.lemmas.List.Sums.{fails_before_first}
use Rattle.script.specs.Script.{is_space, longer, cut_word, one_digit_more, digits_after, number_to}

-- ---- words
at_space : (b : ℕ) (s : List ℕ) → is_space b ≡ true → cut_word (b ∷ s) ≡ ([], Some s)
at_space b s e = ap (λ (t : Bool). elim t [ true ↦ ([], Some s) | false ↦ longer b (cut_word s) ]) e

no_space : (b : ℕ) (s : List ℕ) → is_space b ≡ false → cut_word (b ∷ s) ≡ longer b (cut_word s)
no_space b s e = ap (λ (t : Bool). elim t [ true ↦ ([], Some s) | false ↦ longer b (cut_word s) ]) e

cut_there : (s : List ℕ) (i : ℕ) → i < length s → is_space (get_or s i 0) ≡ true → ((k : ℕ) → k < i → is_space (get_or s k 0) ≡ false) → (take i s, Some (drop (i + 1) s)) ≡ cut_word s
cut_there [] i h is before = absurd (omega arith)
cut_there (b ∷ s) zero h is before = sym (at_space b s is)
cut_there (b ∷ s) (suc i) h is before =
    let behind : drop (suc i + 1) (b ∷ s) ≡ drop (i + 1) s = ap (λ (k : ℕ). drop k (b ∷ s)) (add-one (suc i)) ∙ ap (λ (k : ℕ). drop k s) (sym (add-one i)) in
    ap (λ (x : List ℕ). (b ∷ take i s, Some x)) behind ∙ ap (longer b) (cut_there s i (omega arith) is (λ k l. before (suc k) (omega arith))) ∙ sym (no_space b s (before zero (omega arith)))

cut_nowhere : (s : List ℕ) → ((k : ℕ) → k < length s → is_space (get_or s k 0) ≡ false) → (s, None) ≡ cut_word s
cut_nowhere [] before = refl
cut_nowhere (b ∷ s) before = ap (longer b) (cut_nowhere s (λ k l. before (suc k) (omega arith))) ∙ sym (no_space b s (before zero (omega arith)))

pub words_here : (s : List ℕ) (i : ℕ) → position is_space s ≡ Some i → (take i s, Some (take (length s - (i + 1)) (drop (i + 1) s))) ≡ cut_word s
words_here s i e =
    let found = position-Some is_space s i 0 e in
    ap (λ (x : List ℕ). (take i s, Some x)) (take_rest s (i + 1))
    ∙ cut_there s i found.0 found.1 found.2

pub words_none : (s : List ℕ) → position is_space s ≡ None → (s, None) ≡ cut_word s
words_none s e =
    let nowhere : length s ≤ position_or_len is_space s = grind (arith, common_steps) in
    cut_nowhere s (λ k l. fails_before_first is_space s k 0 (omega arith))

-- ---- numbers
none_after : (most : ℕ) (ds : List ℕ) → digits_after most None ds ≡ None
none_after most [] = refl
none_after most (d ∷ ds) = none_after most ds

abbrev pub Valued : List ℕ → ℕ → ℕ → Type 0
Valued s i value = digits_after 4096 (Some 0) s ≡ digits_after 4096 (Some value) (drop i s)

pub valued_more : (s : List ℕ) (i value next : ℕ) → Valued s i value → i < length s → Some next ≡ one_digit_more 4096 (get_or s i 0) (Some value) → Valued s (i + 1) next
valued_more s i value next e h is = e ∙ ap (digits_after 4096 (Some value)) (drop_more s i 0 h) ∙ ap (λ (o : Option ℕ). digits_after 4096 o (drop (i + 1) s)) (sym is)

from_one : (s : List ℕ) → 0 < length s → digits_after 4096 (Some 0) s ≡ number_to 4096 s
from_one [] h = absurd (omega arith)
from_one (d ∷ ds) h = refl

pub valued_none : (s : List ℕ) (i value : ℕ) → Valued s i value → i < length s → None ≡ one_digit_more 4096 (get_or s i 0) (Some value) → None ≡ number_to 4096 s
valued_none s i value e h is =
    sym (sym (from_one s (omega arith)) ∙ e ∙ ap (digits_after 4096 (Some value)) (drop_more s i 0 h) ∙ ap (λ (o : Option ℕ). digits_after 4096 o (drop (i + 1) s)) (sym is) ∙ none_after 4096 (drop (i + 1) s))

pub valued_all : (s : List ℕ) (i value : ℕ) → Valued s i value → length s ≤ i → 0 < length s → Some value ≡ number_to 4096 s
valued_all s i value e h some = sym (sym (from_one s some) ∙ e ∙ ap (digits_after 4096 (Some value)) (drop_all i s h))
