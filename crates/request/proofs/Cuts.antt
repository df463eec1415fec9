-- How a line that is put together falls into tokens and parts: bytes up to a slash either never make whole tokens, or make the same whatever follows.
use Rattle.std.proofs.Common.{◌≡◌, ℕ, ◌+◌, Bool, true, false, cond, eqb, List, [], ◌∷◌, ◌++◌, length, Some, None, Option, sym, refl, ap, ◌∙◌, subst, append_assoc, append-nil, arith, eqb-true}
use borrow.Author.Tests.{eqb-false}
use Rattle.escape.specs.Tokens.{Token, plain, escape, broken, tokens, after_d, escaping, short, numbered, digit, text, further, first_broken, ahead, parts_of}
use Rattle.escape.proofs.Opening.{tokens_plain, after_short}
use Rattle.escape.proofs.ByTokens.{Escapes, tokens_escape, by_tokens}
use Rattle.escape.proofs.Walking.{ahead_twice, ahead_none}

-- ---- the first broken escape of tokens that stand before others
abbrev pub past : List Token → Option ℕ → Option ℕ
past [] o = o
past (plain b ∷ ts) o = further 1 (past ts o)
past (escape bytes b ∷ ts) o = further (1 + length bytes) (past ts o)
past (broken rest ∷ ts) o = Some 0

pub broken_past : (ts us : List Token) → first_broken (ts ++ us) ≡ past ts (first_broken us)
broken_past [] us = refl
broken_past (plain b ∷ ts) us = ap (further 1) (broken_past ts us)
broken_past (escape bytes b ∷ ts) us = ap (further (1 + length bytes)) (broken_past ts us)
broken_past (broken rest ∷ ts) us = refl

pub past_none : (ts : List Token) → past ts None ≡ first_broken ts
past_none [] = refl
past_none (plain b ∷ ts) = ap (further 1) (past_none ts)
past_none (escape bytes b ∷ ts) = ap (further (1 + length bytes)) (past_none ts)
past_none (broken rest ∷ ts) = refl

pub past_some : (ts : List Token) (q : ℕ) → (p : ℕ) × (past ts (Some q) ≡ Some p)
past_some [] q = (q, refl)
past_some (plain b ∷ ts) q = let h = past_some ts q in (1 + h.0, ap (further 1) h.1)
past_some (escape bytes b ∷ ts) q = let h = past_some ts q in (1 + length bytes + h.0, ap (further (1 + length bytes)) h.1)
past_some (broken rest ∷ ts) q = (0, refl)

-- ---- bytes and a slash behind them, whatever follows
pub data Ends (s : List ℕ) : Type 0 where
  stops : (p : ℕ) → ((u : List ℕ) → first_broken (tokens (s ++ (47 ∷ u))) ≡ Some p) → Ends s
  goes_on : (ts : List Token) → ((u : List ℕ) → tokens (s ++ (47 ∷ u)) ≡ ts ++ tokens u) → first_broken ts ≡ None → text ts ≡ s ++ (47 ∷ []) → Ends s

no_digit_2 : (x y : ℕ) → numbered x 47 y ≡ None
no_digit_2 x y = go (digit x)
  where
    go : (t : Bool) → ◌≡◌ {A = Option ℕ} (cond t None None) None
    go true = refl
    go false = refl

no_digit_3 : (x y : ℕ) → numbered x y 47 ≡ None
no_digit_3 x y = go (digit x) (digit y)
  where
    go : (t v : Bool) → ◌≡◌ {A = Option ℕ} (cond t (cond v None None) None) None
    go true true = refl
    go true false = refl
    go false v = refl

-- an escape that is broken by its own bytes
by_none : (o : Option ℕ) (bytes after : List ℕ) (later : List Token) → o ≡ None → first_broken (escaping o bytes after later) ≡ Some 0
by_none o bytes after later e = ap (λ (o : Option ℕ). first_broken (escaping o bytes after later)) e

was_none : (o : Option ℕ) (bytes after rest : List ℕ) (later : List Token) → escaping o bytes after later ≡ broken rest ∷ [] → o ≡ None
was_none None bytes after rest later e = refl
was_none (Some b) bytes after rest later e = let z : ◌≡◌ {A = ℕ} 0 1 = cc in absurd (omega arith)

short_d : (rest u : List ℕ) → tokens (92 ∷ 100 ∷ rest) ≡ broken (100 ∷ rest) ∷ [] → first_broken (after_d (rest ++ (47 ∷ u))) ≡ Some 0
short_d [] [] e = refl
short_d [] (x ∷ []) e = refl
short_d [] (x ∷ y ∷ u) e = refl
short_d (x ∷ []) [] e = refl
short_d (x ∷ []) (y ∷ u) e = by_none (numbered x 47 y) _ u (tokens u) (no_digit_2 x y)
short_d (x ∷ y ∷ []) u e = by_none (numbered x y 47) _ u (tokens u) (no_digit_3 x y)
short_d (x ∷ y ∷ z ∷ s) u e = by_none (numbered x y z) _ (s ++ (47 ∷ u)) (tokens (s ++ (47 ∷ u))) (was_none (numbered x y z) _ s _ (tokens s) e)

still_broken : (x : ℕ) (s u : List ℕ) → tokens (92 ∷ x ∷ s) ≡ broken (x ∷ s) ∷ [] → first_broken (tokens (92 ∷ x ∷ (s ++ (47 ∷ u)))) ≡ Some 0
still_broken x s u e = go (eqb x 100) refl
  where
    go : (t : Bool) → eqb x 100 ≡ t → first_broken (tokens (92 ∷ x ∷ (s ++ (47 ∷ u)))) ≡ Some 0
    go true p =
        let is = eqb-true x 100 p in
        subst (λ (k : ℕ). first_broken (tokens (92 ∷ k ∷ (s ++ (47 ∷ u)))) ≡ Some 0) (sym is)
        (short_d s u (subst (λ (k : ℕ). tokens (92 ∷ k ∷ s) ≡ broken (k ∷ s) ∷ []) is e))
    go false p =
        let ne = eqb-false x 100 p in
        let none = was_none (short x) (x ∷ []) s (x ∷ s) (tokens s) (sym (after_short x s ne) ∙ e) in
        ap first_broken (after_short x (s ++ (47 ∷ u)) ne) ∙ by_none (short x) (x ∷ []) (s ++ (47 ∷ u)) (tokens (s ++ (47 ∷ u))) none

ends_broken : (rest : List ℕ) → tokens (92 ∷ rest) ≡ broken rest ∷ [] → Ends (92 ∷ rest)
ends_broken [] e = goes_on (escape (47 ∷ []) 47 ∷ []) (λ u. refl) refl refl
ends_broken (x ∷ s) e = stops 0 (λ u. still_broken x s u e)

ends_plain : (b : ℕ) (s : List ℕ) → (b ≡ 92 → ⊥) → Ends s → Ends (b ∷ s)
ends_plain b s ne (stops p f) = stops (1 + p) (λ u. ap first_broken (tokens_plain b (s ++ (47 ∷ u)) ne) ∙ ap (further 1) (f u))
ends_plain b s ne (goes_on ts f n x) =
    goes_on (plain b ∷ ts) (λ u. tokens_plain b (s ++ (47 ∷ u)) ne ∙ ap (λ (us : List Token). plain b ∷ us) (f u)) (ap (further 1) n) (ap (λ (y : List ℕ). b ∷ y) x)

ends_escape : (e : List ℕ) (b : ℕ) (s : List ℕ) → Escapes e b → Ends s → Ends (92 ∷ (e ++ s))
ends_escape e b s w (stops p f) =
    stops (1 + length e + p) (λ u. ap (λ (y : List ℕ). first_broken (tokens (92 ∷ y))) (append_assoc e s (47 ∷ u)) ∙ ap first_broken (tokens_escape w (s ++ (47 ∷ u))) ∙ ap (further (1 + length e)) (f u))
ends_escape e b s w (goes_on ts f n x) =
    goes_on (escape e b ∷ ts)
    (λ u. ap (λ (y : List ℕ). tokens (92 ∷ y)) (append_assoc e s (47 ∷ u)) ∙ tokens_escape w (s ++ (47 ∷ u)) ∙ ap (λ (us : List Token). escape e b ∷ us) (f u))
    (ap (further (1 + length e)) n)
    (ap (λ (y : List ℕ). 92 ∷ (e ++ y)) x ∙ ap (λ (y : List ℕ). 92 ∷ y) (sym (append_assoc e s (47 ∷ []))))

pub ends : (s : List ℕ) → Ends s
ends = by_tokens Ends (goes_on (plain 47 ∷ []) (λ u. tokens_plain 47 u (λ e. omega arith)) refl refl) ends_plain ends_escape ends_broken

-- ---- the parts of tokens that stand before others
abbrev pub glue : List (List ℕ) → List (List ℕ) → List (List ℕ)
glue [] qs = qs
glue (p ∷ []) qs = ahead p qs
glue (p ∷ q ∷ ps) qs = p ∷ glue (q ∷ ps) qs

pub data Cons : List (List ℕ) → Type 0 where
  cons : (p : List ℕ) (ps : List (List ℕ)) → Cons (p ∷ ps)

ahead_cons : (xs : List ℕ) (ps : List (List ℕ)) → Cons (ahead xs ps)
ahead_cons xs [] = cons xs []
ahead_cons xs (p ∷ ps) = cons (xs ++ p) ps

pub parts_cons : (c : ℕ) (ts : List Token) → Cons (parts_of c ts)
parts_cons c [] = cons [] []
parts_cons c (plain b ∷ ts) = go (eqb b c)
  where
    go : (t : Bool) → Cons (elim t [ true ↦ [] ∷ parts_of c ts | false ↦ ahead (b ∷ []) (parts_of c ts) ])
    go true = cons [] (parts_of c ts)
    go false = ahead_cons (b ∷ []) (parts_of c ts)
parts_cons c (escape bytes b ∷ ts) = ahead_cons (92 ∷ bytes) (parts_of c ts)
parts_cons c (broken rest ∷ ts) = ahead_cons (92 ∷ rest) (parts_of c ts)

pub glue_cons : (ps : List (List ℕ)) (q : List ℕ) (qs : List (List ℕ)) → Cons (glue ps (q ∷ qs))
glue_cons [] q qs = cons q qs
glue_cons (p ∷ []) q qs = cons (p ++ q) qs
glue_cons (p ∷ r ∷ ps) q qs = cons p (glue (r ∷ ps) (q ∷ qs))

glue_past : (p : List ℕ) (ps qs : List (List ℕ)) → Cons ps → glue (p ∷ ps) qs ≡ p ∷ glue ps qs
glue_past p ps qs (cons r rs) = refl

ahead_glue : (xs : List ℕ) (ps qs : List (List ℕ)) → ahead xs (glue ps qs) ≡ glue (ahead xs ps) qs
ahead_glue xs [] qs = refl
ahead_glue xs (p ∷ []) qs = ahead_twice xs p qs
ahead_glue xs (p ∷ r ∷ ps) qs = refl

pub parts_glue : (c : ℕ) (ts us : List Token) → parts_of c (ts ++ us) ≡ glue (parts_of c ts) (parts_of c us)
parts_glue c [] us = ahead_none c us
parts_glue c (plain b ∷ ts) us = go (eqb b c) (parts_glue c ts us)
  where
    go : (t : Bool) → parts_of c (ts ++ us) ≡ glue (parts_of c ts) (parts_of c us) → elim t [ true ↦ [] ∷ parts_of c (ts ++ us) | false ↦ ahead (b ∷ []) (parts_of c (ts ++ us)) ] ≡ glue (elim t [ true ↦ [] ∷ parts_of c ts | false ↦ ahead (b ∷ []) (parts_of c ts) ]) (parts_of c us)
    go true h = ap (λ (ps : List (List ℕ)). [] ∷ ps) h ∙ sym (glue_past [] (parts_of c ts) (parts_of c us) (parts_cons c ts))
    go false h = ap (ahead (b ∷ [])) h ∙ ahead_glue (b ∷ []) (parts_of c ts) (parts_of c us)
parts_glue c (escape bytes b ∷ ts) us = ap (ahead (92 ∷ bytes)) (parts_glue c ts us) ∙ ahead_glue (92 ∷ bytes) (parts_of c ts) (parts_of c us)
parts_glue c (broken rest ∷ ts) us = ap (ahead (92 ∷ rest)) (parts_glue c ts us) ∙ ahead_glue (92 ∷ rest) (parts_of c ts) (parts_of c us)

-- ---- the parts make up the text again
abbrev pub rejoined : ℕ → List (List ℕ) → List ℕ
rejoined c [] = []
rejoined c (p ∷ []) = p
rejoined c (p ∷ q ∷ ps) = p ++ (c ∷ rejoined c (q ∷ ps))

rejoined_past : (c : ℕ) (ps : List (List ℕ)) → Cons ps → rejoined c ([] ∷ ps) ≡ c ∷ rejoined c ps
rejoined_past c ps (cons r rs) = refl

rejoined_ahead : (c : ℕ) (xs : List ℕ) (ps : List (List ℕ)) → rejoined c (ahead xs ps) ≡ xs ++ rejoined c ps
rejoined_ahead c xs [] = sym (append-nil xs)
rejoined_ahead c xs (p ∷ []) = refl
rejoined_ahead c xs (p ∷ q ∷ ps) = append_assoc xs p (c ∷ rejoined c (q ∷ ps))

pub parts_text : (c : ℕ) (ts : List Token) → rejoined c (parts_of c ts) ≡ text ts
parts_text c [] = refl
parts_text c (plain b ∷ ts) = go (eqb b c) refl (parts_text c ts)
  where
    go : (t : Bool) → eqb b c ≡ t → rejoined c (parts_of c ts) ≡ text ts → rejoined c (elim t [ true ↦ [] ∷ parts_of c ts | false ↦ ahead (b ∷ []) (parts_of c ts) ]) ≡ b ∷ text ts
    go true p h = rejoined_past c (parts_of c ts) (parts_cons c ts) ∙ ap (λ (x : List ℕ). c ∷ x) h ∙ ap (λ (x : ℕ). x ∷ text ts) (sym (eqb-true b c p))
    go false p h = rejoined_ahead c (b ∷ []) (parts_of c ts) ∙ ap (λ (x : List ℕ). b ∷ x) h
parts_text c (escape bytes b ∷ ts) = rejoined_ahead c (92 ∷ bytes) (parts_of c ts) ∙ ap (λ (x : List ℕ). 92 ∷ (bytes ++ x)) (parts_text c ts)
parts_text c (broken rest ∷ ts) = rejoined_ahead c (92 ∷ rest) (parts_of c ts) ∙ ap (λ (x : List ℕ). 92 ∷ (rest ++ x)) (parts_text c ts)
