-- Numbers in digits, digit by digit.
use Rattle.std.proofs.Common.{◌≡◌, ℕ, ◌+◌, ◌-◌, ◌*◌, ◌^◌, ◌<◌, ◌≤◌, Bool, true, false, cond, leb, List, ◌++◌, length, get_or, take, drop, Some, None, sym, refl, ap, ◌∙◌, arith, pow-add}
use native.Mathlib.Nat.{pow-le-pow_right, sub-zero}
use Rattle.std.proofs.lemmas.List.{drop_more, drop_all, take_at}
use Rattle.std.proofs.lemmas.Bool.{leb-true, leb-false, ne_eqb, le-leb}
use Rattle.escape.specs.Tokens.{digit}
use Rattle.escape.specs.Resolving.{fitting, written}
use Rattle.numeral.specs.Numbers.{spelled_on, numeral, short_numeral}

-- fewer than five digits spell a number below 10,000
pub few : (i : ℕ) → i < 5 → 10 ^ i ≤ 10000
few i h = let k : i ≤ 4 = omega arith in pow-le-pow_right {n = 10} (omega arith) {i = i} {j = 4} k

pub ten_times : (i : ℕ) → 10 ^ (i + 1) ≡ 10 ^ i * 10
ten_times i = pow-add 10 i 1

next_digit : (s : List ℕ) (n i : ℕ) → i < length s → spelled_on n (drop i s) ≡ cond (digit (get_or s i 0)) (spelled_on (n * 10 + (get_or s i 0 - 48)) (drop (i + 1) s)) None
unfolding spelled_on
next_digit s n i h = ap (spelled_on n) (drop_more s i 0 h)

pub digit_bounds : (d : ℕ) → true ≡ digit d → (48 ≤ d) × (d ≤ 57)
digit_bounds d e = go (leb 48 d) refl e
  where
    go : (t : Bool) → leb 48 d ≡ t → true ≡ cond t (leb d 57) false → (48 ≤ d) × (d ≤ 57)
    go true t e = (leb-true 48 d t, leb-true d 57 (sym e))
    go false t e = let z : ◌≡◌ {A = ℕ} 0 1 = cc in absurd (omega arith)

pub digit_on : (s : List ℕ) (n i : ℕ) → i < length s → digit (get_or s i 0) ≡ true → spelled_on n (drop i s) ≡ spelled_on (n * 10 + (get_or s i 0 - 48)) (drop (i + 1) s)
digit_on s n i h e = next_digit s n i h ∙ ap (λ (t : Bool). cond t (spelled_on (n * 10 + (get_or s i 0 - 48)) (drop (i + 1) s)) None) e

pub digit_none : (s : List ℕ) (n i : ℕ) → i < length s → digit (get_or s i 0) ≡ false → spelled_on n (drop i s) ≡ None
digit_none s n i h e = next_digit s n i h ∙ ap (λ (t : Bool). cond t (spelled_on (n * 10 + (get_or s i 0 - 48)) (drop (i + 1) s)) None) e

pub digits_end : (s : List ℕ) (n i : ℕ) → length s ≤ i → spelled_on n (drop i s) ≡ Some n
unfolding spelled_on
digits_end s n i h = ap (spelled_on n) (drop_all i s h)

-- ---- bytes written to a buffer of a few bytes, and taken from its front
pub front : (bs out after : List ℕ) (n : ℕ) → Some n ≡ fitting bs (length out) → after ≡ written bs out → (take (n - 0) after ≡ bs) × (n ≡ length bs) × (n ≤ length out)
front bs out after n e is = go (leb (length bs) (length out)) refl e is
  where
    go : (t : Bool) → leb (length bs) (length out) ≡ t → Some n ≡ cond t (Some (length bs)) None → after ≡ cond t (bs ++ drop (length bs) out) out → (take (n - 0) after ≡ bs) × (n ≡ length bs) × (n ≤ length out)
    go true t e is =
        let same : n ≡ length bs = cc in
        let h = leb-true (length bs) (length out) t in
        (rw sub-zero (ap (take n) is ∙ take_at bs (drop (length bs) out) n (sym same)), same, omega arith)
    go false t e is = let z : ◌≡◌ {A = ℕ} 0 1 = cc in absurd (omega arith)

-- a number of more digits than a record's have is no numeral and no count
pub no_numeral : (bs : List ℕ) (width : ℕ) → width ≤ 5 → 5 < length bs → None ≡ numeral width bs
no_numeral bs width h k = sym (ap (λ (t : Bool). cond t (spelled_on 0 bs) None) (ne_eqb (length bs) width (λ e. omega arith)))

-- five digits at most, so a number of more is none
pub short_fits : (width : ℕ) (bs : List ℕ) → length bs ≤ 5 → numeral width bs ≡ short_numeral width bs
short_fits width bs few = go (leb width 5) refl
  where
    go : (t : Bool) → leb width 5 ≡ t → numeral width bs ≡ cond t (numeral width bs) None
    go true e = refl
    go false e = let more = leb-false width 5 e in ap (λ (t : Bool). cond t (spelled_on 0 bs) None) (ne_eqb (length bs) width (λ same. omega arith))

pub short_none : (width : ℕ) (bs : List ℕ) → 5 < length bs → None ≡ short_numeral width bs
short_none width bs more = go (leb width 5) refl
  where
    go : (t : Bool) → leb width 5 ≡ t → None ≡ cond t (numeral width bs) None
    go true e = no_numeral bs width (leb-true width 5 e) more
    go false e = refl

pub short_is : (width : ℕ) (bs : List ℕ) → width ≤ 5 → short_numeral width bs ≡ numeral width bs
short_is width bs few = ap (λ (t : Bool). cond t (numeral width bs) None) (le-leb width 5 few)
