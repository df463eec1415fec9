-- Induction over a list of bytes by its tokens, and what follows from it at once.
use Rattle.std.proofs.Common.{◌≡◌, ℕ, ◌≤◌, Bool, true, false, eqb, List, [], ◌∷◌, ◌++◌, length, Some, None, Option, sym, refl, ap, ◌∙◌, subst, append-nil, arith, length-append, eqb-true}
use borrow.Author.Tests.{eqb-false}
use Rattle.escape.specs.Tokens.{Token, escape, broken, tokens, escaping, short, numbered, text, bytes_meant, resolved}
use Rattle.escape.proofs.Opening.{tokens_plain, after_short, not_d}

-- the bytes after a backslash that make an escape for the byte
pub data Escapes : List ℕ → ℕ → Type 0 where
  by_letter : (x b : ℕ) → short x ≡ Some b → Escapes (x ∷ []) b
  by_number : (x y z b : ℕ) → numbered x y z ≡ Some b → Escapes (100 ∷ x ∷ y ∷ z ∷ []) b

pub tokens_escape : {e : List ℕ} {b : ℕ} → Escapes e b → (s : List ℕ) → tokens (92 ∷ (e ++ s)) ≡ escape e b ∷ tokens s
tokens_escape (by_letter x b is) s = after_short x s (not_d x b is) ∙ ap (λ (o : Option ℕ). escaping o (x ∷ []) s (tokens s)) is
tokens_escape (by_number x y z b is) s = ap (λ (o : Option ℕ). escaping o (100 ∷ x ∷ y ∷ z ∷ []) s (tokens s)) is

module _ (P : List ℕ → Type 0) (none : P [])
    (a_plain : (b : ℕ) (s : List ℕ) → (b ≡ 92 → ⊥) → P s → P (b ∷ s))
    (an_escape : (e : List ℕ) (b : ℕ) (s : List ℕ) → Escapes e b → P s → P (92 ∷ (e ++ s)))
    (a_broken : (rest : List ℕ) → tokens (92 ∷ rest) ≡ broken rest ∷ [] → P (92 ∷ rest)) where
  first_byte : (b : ℕ) (s : List ℕ) (e : Bool) → eqb b 92 ≡ e → P (92 ∷ s) → P s → P (b ∷ s)
  first_byte b s true p h k = subst (λ (c : ℕ). P (c ∷ s)) (sym (eqb-true b 92 p)) h
  first_byte b s false p h k = a_plain b s (eqb-false b 92 p) k

  by_short : (x : ℕ) (s : List ℕ) (o : Option ℕ) → (x ≡ 100 → ⊥) → short x ≡ o → P s → P (92 ∷ x ∷ s)
  by_short x s None ne p k = a_broken (x ∷ s) (after_short x s ne ∙ ap (λ (o : Option ℕ). escaping o (x ∷ []) s (tokens s)) p)
  by_short x s (Some b) ne p k = an_escape (x ∷ []) b s (by_letter x b p) k

  second_byte : (x : ℕ) (s : List ℕ) (e : Bool) → eqb x 100 ≡ e → P (92 ∷ 100 ∷ s) → P s → P (92 ∷ x ∷ s)
  second_byte x s true p h k = subst (λ (c : ℕ). P (92 ∷ c ∷ s)) (sym (eqb-true x 100 p)) h
  second_byte x s false p h k = by_short x s (short x) (eqb-false x 100 p) refl k

  by_digits : (x y z : ℕ) (s : List ℕ) (o : Option ℕ) → numbered x y z ≡ o → P s → P (92 ∷ 100 ∷ x ∷ y ∷ z ∷ s)
  by_digits x y z s None p k = a_broken (100 ∷ x ∷ y ∷ z ∷ s) (ap (λ (o : Option ℕ). escaping o (100 ∷ x ∷ y ∷ z ∷ []) s (tokens s)) p)
  by_digits x y z s (Some b) p k = an_escape (100 ∷ x ∷ y ∷ z ∷ []) b s (by_number x y z b p) k

  mutual
    pub by_tokens : (s : List ℕ) → P s
    by_tokens [] = none
    by_tokens (b ∷ s) = first_byte b s (eqb b 92) refl (by_backslash s) (by_tokens s)

    by_backslash : (s : List ℕ) → P (92 ∷ s)
    by_backslash [] = a_broken [] refl
    by_backslash (x ∷ s) = second_byte x s (eqb x 100) refl (by_d s) (by_tokens s)

    by_d : (s : List ℕ) → P (92 ∷ 100 ∷ s)
    by_d [] = a_broken (100 ∷ []) refl
    by_d (x ∷ []) = a_broken (100 ∷ x ∷ []) refl
    by_d (x ∷ y ∷ []) = a_broken (100 ∷ x ∷ y ∷ []) refl
    by_d (x ∷ y ∷ z ∷ s) = by_digits x y z s (numbered x y z) refl (by_tokens s)

-- the tokens of a list spell it
pub text_tokens : (s : List ℕ) → text (tokens s) ≡ s
text_tokens =
    by_tokens (λ s. text (tokens s) ≡ s) refl
    (λ b s ne h. ap text (tokens_plain b s ne) ∙ ap (λ (t : List ℕ). b ∷ t) h)
    (λ e b s w h. ap text (tokens_escape w s) ∙ ap (λ (t : List ℕ). 92 ∷ (e ++ t)) h)
    (λ rest e. ap text e ∙ append-nil (92 ∷ rest))

-- a list means no more bytes than it has
pub meant_fits : (s : List ℕ) → length (resolved s) ≤ length s
meant_fits =
    by_tokens (λ s. length (resolved s) ≤ length s) (omega arith)
    (λ b s ne h. omega (arith, h, ap (λ (ts : List Token). length (bytes_meant ts)) (tokens_plain b s ne)))
    (λ e b s w h. omega (arith, h, ap (λ (ts : List Token). length (bytes_meant ts)) (tokens_escape w s), length-append e s))
    (λ rest e. omega (arith, ap (λ (ts : List Token). length (bytes_meant ts)) e))
