-- No way to spell some bytes is shorter than the canonical one.
use Rattle.std.proofs.Common.{◌≡◌, ℕ, ◌+◌, ◌<◌, ◌≤◌, Bool, true, false, cond, eqb, leb, ◌⊎◌, List, [], ◌∷◌, ◌++◌, length, Some, None, Option, sym, refl, ap, ◌∙◌, subst, inl, inr, append-nil, arith, length-append}
use Rattle.std.proofs.lemmas.Bool.{leb-true, cases_eq}
use Rattle.std.specs.List.{AllByRecursion}
use Rattle.escape.specs.Tokens.{Token, plain, escape, broken, tokens, short, numbered, three_digits, digit, ahead, parts_of, parts, resolved, bytes_meant}
use Rattle.escape.specs.Spelling.{letter_for, in_digits, spelled_with, spelled, spelling}
use Rattle.escape.proofs.Opening.{tokens_plain}
use Rattle.escape.proofs.ByTokens.{Escapes, by_letter, by_number, tokens_escape, by_tokens}
use Rattle.escape.proofs.Walking.{parts_other, parts_here, ahead_none}
use Rattle.escape.proofs.Chunks.{Seen, tame_spelled}

-- ---- the length of what a byte is spelled as
spelled_most : (b : ℕ) → length (spelled b) ≤ 5
spelled_most b = go (letter_for b)
  where
    by_place : (l u : Bool) → length (cond l (cond u (b ∷ []) (in_digits b)) (in_digits b)) ≤ 5
    by_place true true = omega arith
    by_place true false = omega arith
    by_place false u = omega arith

    go : (o : Option ℕ) → length (spelled_with o b) ≤ 5
    go (Some x) = omega arith
    go None = by_place (leb 32 b) (leb b 126)

Lettered : ℕ → Type 0
Lettered b = (length (spelled b) ≤ 2) × (b < 256)

-- a byte with a short escape
lettered : (x b : ℕ) → short x ≡ Some b → Lettered b
unfolding Lettered
lettered x b = go (eqb x 58) (eqb x 47) (eqb x 92) (eqb x 110) (eqb x 114) (eqb x 116)
  where
    at : (k : ℕ) → Some k ≡ Some b → Lettered k → Lettered b
    at k e h = let s : k ≡ b = cc in subst Lettered s h

    go : (p q r u v w : Bool) → cond p (Some 58) (cond q (Some 47) (cond r (Some 92) (cond u (Some 10) (cond v (Some 13) (cond w (Some 9) None))))) ≡ Some b → Lettered b
    go true q r u v w e = at 58 e (omega arith, omega arith)
    go false true r u v w e = at 47 e (omega arith, omega arith)
    go false false true u v w e = at 92 e (omega arith, omega arith)
    go false false false true v w e = at 10 e (omega arith, omega arith)
    go false false false false true w e = at 13 e (omega arith, omega arith)
    go false false false false false true e = at 9 e (omega arith, omega arith)
    go false false false false false false e = let z : ◌≡◌ {A = ℕ} 0 1 = cc in absurd (omega arith)

number_byte : (x y z b : ℕ) → numbered x y z ≡ Some b → b < 256
number_byte x y z b = go (digit x) (digit y) (digit z) (leb (three_digits x y z) 255) refl
  where
    go : (p q r t : Bool) → leb (three_digits x y z) 255 ≡ t → cond p (cond q (cond r (cond t (Some (three_digits x y z)) None) None) None) None ≡ Some b → b < 256
    go true true true true t e = let s : three_digits x y z ≡ b = cc in let h = leb-true (three_digits x y z) 255 t in omega arith
    go true true true false t e = let z : ◌≡◌ {A = ℕ} 0 1 = cc in absurd (omega arith)
    go true true false t0 t e = let z : ◌≡◌ {A = ℕ} 0 1 = cc in absurd (omega arith)
    go true false r t0 t e = let z : ◌≡◌ {A = ℕ} 0 1 = cc in absurd (omega arith)
    go false q r t0 t e = let z : ◌≡◌ {A = ℕ} 0 1 = cc in absurd (omega arith)

escape_most : (e : List ℕ) (b : ℕ) → Escapes e b → (length (spelled b) ≤ 1 + length e) × (b < 256)
unfolding Lettered
escape_most e b (by_letter x c is) = let h = lettered x b is in (omega (arith, h.0), h.1)
escape_most e b (by_number x y z c is) = (omega (arith, spelled_most b), number_byte x y z b is)

-- ---- what the bytes outside escapes are
abbrev pub Plainly : (ℕ → Type 0) → List Token → Type 0
Plainly N [] = Unit {0}
Plainly N (plain b ∷ ts) = N b × Plainly N ts
Plainly N (escape e b ∷ ts) = Plainly N ts
Plainly N (broken rest ∷ ts) = Unit {0}

-- a byte of a field that may stand outside an escape
abbrev pub Outside : ℕ → Type 0
Outside b = (Seen b × (b ≡ 47 → ⊥)) × (b ≡ 58 → ⊥)

pub no_longer : (s : List ℕ) → Plainly Outside (tokens s) → length (spelling (resolved s)) ≤ length s
no_longer =
    by_tokens (λ s. Plainly Outside (tokens s) → length (spelling (resolved s)) ≤ length s)
    (λ h. omega arith)
    (λ b s ne later h.
    let t = tokens_plain b s ne in
    let k : Outside b × Plainly Outside (tokens s) = subst (Plainly Outside) t h in
    let one = ap length (tame_spelled b (k.0.0.0.0, k.0.0.0.1, k.0.1, k.0.0.1, ne)) in
    let all = ap (λ (ts : List Token). length (spelling (bytes_meant ts))) t in
    omega (arith, length-append (spelled b) (spelling (resolved s)), later k.1))
    (λ e b s w later h.
    let t = tokens_escape w s in
    let k : Plainly Outside (tokens s) = subst (Plainly Outside) t h in
    let all = ap (λ (ts : List Token). length (spelling (bytes_meant ts))) t in
    omega (arith, length-append (spelled b) (spelling (resolved s)), later k, (escape_most e b w).0, length-append e s))
    (λ rest e h. omega (arith, ap (λ (ts : List Token). length (spelling (bytes_meant ts))) e))

pub resolved_bytes : (s : List ℕ) → Plainly Outside (tokens s) → AllByRecursion (λ b. b < 256) (resolved s)
resolved_bytes =
    by_tokens (λ s. Plainly Outside (tokens s) → AllByRecursion (λ b. b < 256) (resolved s))
    (λ h. tt)
    (λ b s ne later h.
    let t = tokens_plain b s ne in
    let k : Outside b × Plainly Outside (tokens s) = subst (Plainly Outside) t h in
    let bound : b < 256 = omega (arith, k.0.0.0.1) in
    subst (λ (ts : List Token). AllByRecursion (λ b. b < 256) (bytes_meant ts)) (sym t) (bound, later k.1))
    (λ e b s w later h.
    let t = tokens_escape w s in
    subst (λ (ts : List Token). AllByRecursion (λ b. b < 256) (bytes_meant ts)) (sym t) ((escape_most e b w).1, later (subst (Plainly Outside) t h)))
    (λ rest e h. subst (λ (ts : List Token). AllByRecursion (λ b. b < 256) (bytes_meant ts)) (sym e) tt)

-- ---- cutting
abbrev pub total : List (List ℕ) → ℕ
total [] = 0
total (p ∷ ps) = length p + 1 + total ps

total_ahead : (xs : List ℕ) (ps : List (List ℕ)) → ps ≡ ahead [] ps → total (ahead xs ps) ≡ length xs + total ps
total_ahead xs [] e = let z : ◌≡◌ {A = ℕ} 0 1 = cc in absurd (omega arith)
total_ahead xs (p ∷ ps) e = omega (arith, length-append xs p)

-- the parts and the bytes that cut them are the whole
pub spread : (c : ℕ) (s : List ℕ) → total (parts c s) ≡ length s + 1
spread c =
    by_tokens (λ s. total (parts c s) ≡ length s + 1)
    (omega arith)
    (λ b s ne later. one b s ne later (cases_eq b c))
    (λ e b s w later. omega (arith, ap (λ (ts : List Token). total (parts_of c ts)) (tokens_escape w s), total_ahead (92 ∷ e) (parts c s) (ahead_none c (tokens s)), length-append e s))
    (λ rest e. omega (arith, ap (λ (ts : List Token). total (parts_of c ts)) e, ap length (append-nil rest)))
  where
    one : (b : ℕ) (s : List ℕ) → (b ≡ 92 → ⊥) → total (parts c s) ≡ length s + 1 → (b ≡ c) ⊎ (b ≡ c → ⊥) → total (parts c (b ∷ s)) ≡ length (b ∷ s) + 1
    one b s ne later (inl e) = omega (arith, ap (λ (ts : List Token). total (parts_of c ts)) (tokens_plain b s ne) ∙ ap total (parts_here c b (tokens s) e))
    one b s ne later (inr other) = omega (arith, ap (λ (ts : List Token). total (parts_of c ts)) (tokens_plain b s ne) ∙ ap total (parts_other c b (tokens s) other), total_ahead (b ∷ []) (parts c s) (ahead_none c (tokens s)))

module _ (N : ℕ → Type 0) (c : ℕ) where
  abbrev Left : List ℕ → Type 0
  Left p = Plainly (λ b. N b × (b ≡ c → ⊥)) (tokens p)

  ahead_left : (xs : List ℕ) (ps : List (List ℕ)) → ps ≡ ahead [] ps → ((p : List ℕ) → Left p → Left (xs ++ p)) → AllByRecursion Left ps → AllByRecursion Left (ahead xs ps)
  ahead_left xs [] e w h = let z : ◌≡◌ {A = ℕ} 0 1 = cc in absurd (omega arith)
  ahead_left xs (p ∷ ps) e w h = (w p h.0, h.1)

  one_left : (b : ℕ) (s : List ℕ) → (b ≡ 92 → ⊥) → N b → AllByRecursion Left (parts c s) → (b ≡ c) ⊎ (b ≡ c → ⊥) → AllByRecursion Left (parts c (b ∷ s))
  one_left b s ne n later (inl e) = subst (λ (ps : List (List ℕ)). AllByRecursion Left ps) (sym (ap (parts_of c) (tokens_plain b s ne) ∙ parts_here c b (tokens s) e)) (tt, later)
  one_left b s ne n later (inr other) =
      subst (λ (ps : List (List ℕ)). AllByRecursion Left ps) (sym (ap (parts_of c) (tokens_plain b s ne) ∙ parts_other c b (tokens s) other))
      (ahead_left (b ∷ []) (parts c s) (ahead_none c (tokens s)) (λ p h. subst (Plainly (λ b. N b × (b ≡ c → ⊥))) (sym (tokens_plain b p ne)) ((n, other), h)) later)

  -- what holds of the bytes outside escapes, and that they are not `c`, in each part
  pub parts_left : (s : List ℕ) → Plainly N (tokens s) → AllByRecursion Left (parts c s)
  parts_left =
      by_tokens (λ s. Plainly N (tokens s) → AllByRecursion Left (parts c s))
      (λ h. (tt, tt))
      (λ b s ne later h.
      let k : N b × Plainly N (tokens s) = subst (Plainly N) (tokens_plain b s ne) h in
      one_left b s ne k.0 (later k.1) (cases_eq b c))
      (λ e b s w later h.
      subst (λ (ts : List Token). AllByRecursion Left (parts_of c ts)) (sym (tokens_escape w s))
      (ahead_left (92 ∷ e) (parts c s) (ahead_none c (tokens s)) (λ p l. subst (Plainly (λ b. N b × (b ≡ c → ⊥))) (sym (tokens_escape w p)) l) (later (subst (Plainly N) (tokens_escape w s) h))))
      (λ rest e h.
      let alone : parts c (92 ∷ rest) ≡ (92 ∷ rest) ∷ [] = ap (parts_of c) e ∙ ap (λ (x : List ℕ). x ∷ []) (append-nil (92 ∷ rest)) in
      let left : Left (92 ∷ rest) = subst (Plainly (λ b. N b × (b ≡ c → ⊥))) (sym e) tt in
      subst (λ (ps : List (List ℕ)). AllByRecursion Left ps) (sym alone) (left, tt))

pub seen_plainly : (s : List ℕ) → AllByRecursion Seen s → Plainly Seen (tokens s)
seen_plainly =
    by_tokens (λ s. AllByRecursion Seen s → Plainly Seen (tokens s))
    (λ h. tt)
    (λ b s ne later h. subst (Plainly Seen) (sym (tokens_plain b s ne)) (h.0, later h.1))
    (λ e b s w later h. subst (Plainly Seen) (sym (tokens_escape w s)) (later (behind e s h.1)))
    (λ rest e h. subst (Plainly Seen) (sym e) tt)
  where
    behind : (xs ys : List ℕ) → AllByRecursion Seen (xs ++ ys) → AllByRecursion Seen ys
    behind [] ys h = h
    behind (x ∷ xs) ys h = behind xs ys h.1
