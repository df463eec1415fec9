-- Digits written from the last place to the first.
use Rattle.std.proofs.Common.{◌≡◌, ℕ, ◌+◌, ◌-◌, ◌/◌, ◌%◌, ◌^◌, ◌<◌, List, ◌∷◌, length, drop, replicate, sym, ap, ◌∙◌, add-one, arith}
use Rattle.std.proofs.Math.ListN.{set}
use Rattle.std.proofs.Math.Nat.{div-div-eq-div-mul}
use Rattle.std.proofs.lemmas.List.{drop_all, length-replicate}
use Rattle.std.proofs.lemmas.Grind.{drop-set_at}
use Rattle.numeral.specs.Numbers.{in_digits}
use Rattle.numeral.proofs.Numerals.{ten_times}

pub none_written : (places n : ℕ) → drop (places - 0) (replicate places 48) ≡ in_digits 0 n
unfolding in_digits
none_written places n = drop_all (places - 0) (replicate places 48) (omega (arith, length-replicate {A = ℕ} places 48))

-- a digit goes in front of the i digits that the last places hold
pub one_place : (places i n rest : ℕ) (out : List ℕ) → i < places → length out ≡ places → drop (places - i) out ≡ in_digits i n → rest ≡ n / 10 ^ i
    → drop (places - (i + 1)) (set out (places - 1 - i) (48 + rest % 10)) ≡ in_digits (i + 1) n
unfolding in_digits
one_place places i n rest out below size written left =
    drop-set_at out (places - 1 - i) (places - (i + 1)) (48 + rest % 10) (omega arith) (omega arith)
    ∙ ap (λ (k : ℕ). (48 + rest % 10) ∷ drop k out) (omega arith)
    ∙ ap (λ (ds : List ℕ). (48 + rest % 10) ∷ ds) written
    ∙ ap (λ (k : ℕ). (48 + k % 10) ∷ in_digits i n) left
    ∙ ap (λ (k : ℕ). in_digits k n) (sym (add-one i))

pub one_less : (i n rest : ℕ) → rest ≡ n / 10 ^ i → rest / 10 ≡ n / 10 ^ (i + 1)
one_less i n rest left = ap (λ (k : ℕ). k / 10) left ∙ div-div-eq-div-mul n (10 ^ i) 10 ∙ ap (λ (k : ℕ). n / k) (sym (ten_times i))
