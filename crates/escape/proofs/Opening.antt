-- The tokens of a list by its front, as the arms of a slice pattern see it.
use Rattle.std.proofs.Common.{◌≡◌, ℕ, ◌-◌, ◌≤◌, Bool, true, false, eqb, List, [], ◌∷◌, length, get_or, take, drop, Some, Option, sym, refl, ap, ◌∙◌, arith, length-drop, take_all, ne_eqb}
use Rattle.escape.specs.Tokens.{plain, escape, tokens, after_backslash, after_d, escaping, short, numbered}

-- what `rest @ ..` after n elements holds
pub rest_of : (n : ℕ) (s : List ℕ) → n ≤ length s → take (length s - n) (drop n s) ≡ drop n s
rest_of n s h = take_all _ (drop n s) (omega (arith, length-drop n s))

-- ---- by the first bytes
pub tokens_plain : (b : ℕ) (s : List ℕ) → (b ≡ 92 → ⊥) → tokens (b ∷ s) ≡ plain b ∷ tokens s
tokens_plain b s ne = go (eqb b 92) (ne_eqb b 92 ne)
  where
    go : (e : Bool) → e ≡ false → elim e [ true ↦ after_backslash s | false ↦ plain b ∷ tokens s ] ≡ plain b ∷ tokens s
    go false p = refl
    go true p = let z : ◌≡◌ {A = ℕ} 0 1 = cc in absurd (omega arith)

pub tokens_backslash : (b : ℕ) (s : List ℕ) → b ≡ 92 → tokens (b ∷ s) ≡ after_backslash s
tokens_backslash b s e = ap (λ (c : ℕ). tokens (c ∷ s)) e

pub after_short : (x : ℕ) (s : List ℕ) → (x ≡ 100 → ⊥) → after_backslash (x ∷ s) ≡ escaping (short x) (x ∷ []) s (tokens s)
after_short x s ne = go (eqb x 100) (ne_eqb x 100 ne)
  where
    go : (e : Bool) → e ≡ false → elim e [ true ↦ after_d s | false ↦ escaping (short x) (x ∷ []) s (tokens s) ] ≡ escaping (short x) (x ∷ []) s (tokens s)
    go false p = refl
    go true p = let z : ◌≡◌ {A = ℕ} 0 1 = cc in absurd (omega arith)

pub after_number : (x : ℕ) (s : List ℕ) → x ≡ 100 → after_backslash (x ∷ s) ≡ after_d s
after_number x s e = ap (λ (c : ℕ). after_backslash (c ∷ s)) e

-- ---- by the arms
-- the bytes of an escape that has n bytes after its backslash
between : (b : ℕ) (s : List ℕ) (n : ℕ) → n ≤ length s → take (length (b ∷ s) - length (drop n s) - 1) (drop 1 (b ∷ s)) ≡ take n s
between b s n h = ap (λ (k : ℕ). take k s) (omega (arith, length-drop n s))

pub not_d : (x b : ℕ) → short x ≡ Some b → x ≡ 100 → ⊥
not_d x b e d = let q : short 100 ≡ Some b = sym (ap short d) ∙ e in let z : ◌≡◌ {A = ℕ} 0 1 = cc in omega arith

pub short_front : (s : List ℕ) (x b : ℕ) → 2 ≤ length s → get_or s 0 0 ≡ 92 → get_or s 1 0 ≡ x → short x ≡ Some b
    → escape (take (length s - length (take (length s - 2) (drop 2 s)) - 1) (drop 1 s)) b ∷ tokens (take (length s - 2) (drop 2 s)) ≡ tokens s
short_front [] x b h e f g = absurd (omega arith)
short_front (p ∷ []) x b h e f g = absurd (omega arith)
short_front (p ∷ q ∷ s) x b h e f g =
    let is : short q ≡ Some b = ap short f ∙ g in
    rw (rest_of 2 (p ∷ q ∷ s) h, between p (q ∷ s) 1 (omega arith))
    (sym (tokens_backslash p (q ∷ s) e ∙ after_short q s (not_d q b is) ∙ ap (λ (o : Option ℕ). escaping o (q ∷ []) s (tokens s)) is))

pub number_front : (s : List ℕ) (b : ℕ) → 5 ≤ length s → get_or s 0 0 ≡ 92 → get_or s 1 0 ≡ 100 → numbered (get_or s 2 0) (get_or s 3 0) (get_or s 4 0) ≡ Some b
    → escape (take (length s - length (take (length s - 5) (drop 5 s)) - 1) (drop 1 s)) b ∷ tokens (take (length s - 5) (drop 5 s)) ≡ tokens s
number_front [] b h e f g = absurd (omega arith)
number_front (p ∷ []) b h e f g = absurd (omega arith)
number_front (p ∷ q ∷ []) b h e f g = absurd (omega arith)
number_front (p ∷ q ∷ x ∷ []) b h e f g = absurd (omega arith)
number_front (p ∷ q ∷ x ∷ y ∷ []) b h e f g = absurd (omega arith)
number_front (p ∷ q ∷ x ∷ y ∷ z ∷ s) b h e f g =
    rw (rest_of 5 (p ∷ q ∷ x ∷ y ∷ z ∷ s) h, between p (q ∷ x ∷ y ∷ z ∷ s) 4 (omega arith))
    (sym (tokens_backslash p (q ∷ x ∷ y ∷ z ∷ s) e ∙ after_number q (x ∷ y ∷ z ∷ s) f ∙ ap (λ (o : Option ℕ). escaping o (100 ∷ x ∷ y ∷ z ∷ []) s (tokens s)) g ∙ ap (λ (d : ℕ). escape (d ∷ x ∷ y ∷ z ∷ []) b ∷ tokens s) (sym f)))
