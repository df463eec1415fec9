-- The device of an address, as the arms of a slice pattern see it, and how many bytes name it.
use Rattle.std.proofs.Common.{ap, ◌∙◌, le-leb, ◌≡◌, ℕ, ◌+◌, ◌-◌, ◌≤◌, Bool, true, false, cond, eqb, leb, List, [], ◌∷◌, length, get_or, take, drop, Some, None, Option, sym, refl, subst, arith, eq-eqb, leb-true}
use Rattle.std.specs.Bool.{then_some}
use Rattle.std.specs.List.{list_all}
use Rattle.line.specs.Forms.{hex_digit, every, serial_length, pair_length, device_length, if_some, unless_zero, digit_pair}
use Rattle.line.proofs.Loops.{rest_of, every_list}

pub by_serial : (s : List ℕ) → 1 ≤ length s → get_or s 0 0 ≡ 35 → serial_length (take (length s - 1) (drop 1 s)) ≡ device_length s
by_serial [] h e = absurd (omega arith)
by_serial (x ∷ s) h e = rw (rest_of 1 (x ∷ s) h, eq-eqb x 35 e)

-- the twelve digits, by the test of each of them
hex_then : (t : Bool) (n : ℕ) → then_some t n ≡ cond t (Some n) None
hex_then true n = refl
hex_then false n = refl

pub serial_by : (s : List ℕ) (t : Bool) (r : Option ℕ) → 12 ≤ length s → t ≡ list_all hex_digit (take (12 - 0) s) → r ≡ then_some {T = ℕ} t 13 → r ≡ serial_length s
serial_by s t r h e gave =
    let same : t ≡ every hex_digit (take 12 s) = e ∙ sym (every_list hex_digit (take 12 s)) in
    rw (le-leb 12 (length s) h) (gave ∙ hex_then t 13 ∙ ap (λ (b : Bool). cond b (Some 13) None) same)

abbrev Fits : Option ℕ → ℕ → Type 0
Fits None m = Unit {0}
Fits (Some n) m = n ≤ m

fits_serial : (s : List ℕ) (m : ℕ) → length s + 1 ≤ m → Fits (serial_length s) m
fits_serial s m h = go (leb 12 (length s)) (every hex_digit (take 12 s)) refl
  where
    go : (p q : Bool) → leb 12 (length s) ≡ p → Fits (cond p (cond q (Some 13) None) None) m
    go true true e = omega (arith, leb-true 12 (length s) e)
    go true false e = tt
    go false q e = tt

fits_if : (o : Option ℕ) (n m : ℕ) → n ≤ m → Fits (if_some o n) m
fits_if None n m h = tt
fits_if (Some x) n m h = h

fits_pair : (x : ℕ) (s : List ℕ) → Fits (pair_length x s) (length (x ∷ s))
fits_pair x [] = tt
fits_pair x (y ∷ s) = fits_if (unless_zero (digit_pair x y)) 2 (length (x ∷ y ∷ s)) (omega arith)

fits : (s : List ℕ) → Fits (device_length s) (length s)
fits [] = tt
fits (x ∷ s) = go (eqb x 35)
  where
    go : (e : Bool) → Fits (cond e (serial_length s) (pair_length x s)) (length (x ∷ s))
    go true = fits_serial s (length (x ∷ s)) (omega arith)
    go false = fits_pair x s

pub device_within : (s : List ℕ) (n : ℕ) → Some n ≡ device_length s → n ≤ length s
device_within s n e = subst (λ (o : Option ℕ). Fits o (length s)) (sym e) (fits s)
