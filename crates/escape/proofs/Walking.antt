-- Going through a list of bytes token by token: what was passed, and what is left.
use Rattle.std.proofs.Common.{◌≡◌, ℕ, ◌+◌, ◌-◌, ◌<◌, Bool, true, false, eqb, List, [], ◌∷◌, ◌++◌, length, take, Some, None, Option, sym, refl, ap, ◌∙◌, append_assoc, append-nil, arith, length-append, eq-eqb, ne_eqb}
use Rattle.std.proofs.lemmas.List.{take_at}
use Rattle.escape.specs.Tokens.{Token, plain, escape, broken, tokens, spelt, text, further, first_broken, ahead, parts_of, parts}
use Rattle.escape.proofs.ByTokens.{text_tokens}

-- a token taken off the front
pub front_text : (s rest : List ℕ) (t : Token) → t ∷ tokens rest ≡ tokens s → s ≡ spelt t ++ rest
front_text s rest t e = sym (text_tokens s) ∙ ap text (sym e) ∙ ap (λ (x : List ℕ). spelt t ++ x) (text_tokens rest)

pub shorter : (s rest : List ℕ) (t : Token) → t ∷ tokens rest ≡ tokens s → 0 < length (spelt t) → length rest < length s
shorter s rest t e some = omega (arith, ap length (front_text s rest t e), length-append (spelt t) rest)

-- a list taken apart at its end
front_of : (p rest s : List ℕ) → s ≡ p ++ rest → length s - length rest ≡ length p
front_of p rest s e = omega (arith, ap length e, length-append p rest)

-- ---- looking for a broken escape
abbrev pub Sought : List ℕ → List ℕ → Type 0
Sought s rest = (p : List ℕ) × (s ≡ p ++ rest) × (first_broken (tokens s) ≡ further (length p) (first_broken (tokens rest)))

further_none : (o : Option ℕ) → o ≡ further 0 o
further_none None = refl
further_none (Some p) = ap Some (omega arith)

further_twice : (n m : ℕ) (o : Option ℕ) → further n (further m o) ≡ further (n + m) o
further_twice n m None = refl
further_twice n m (Some p) = ap Some (omega arith)

pub sought_start : (s : List ℕ) → Sought s s
sought_start s = ([], refl, further_none (first_broken (tokens s)))

pub sought_more : (s rest more : List ℕ) (t : Token) → t ∷ tokens more ≡ tokens rest → first_broken (t ∷ tokens more) ≡ further (length (spelt t)) (first_broken (tokens more)) → Sought s rest → Sought s more
sought_more s rest more t e one w =
    let f = front_text rest more t e in (
      w.0 ++ spelt t,
      w.1 ∙ ap (λ (x : List ℕ). w.0 ++ x) f ∙ sym (append_assoc w.0 (spelt t) more),
      w.2 ∙ ap (λ (ts : List Token). further (length w.0) (first_broken ts)) (sym e) ∙ ap (further (length w.0)) one
          ∙ further_twice (length w.0) (length (spelt t)) (first_broken (tokens more))
          ∙ ap (λ (n : ℕ). further n (first_broken (tokens more))) (sym (length-append w.0 (spelt t))),
    )

pub sought_escape : (bytes : List ℕ) (o : Option ℕ) → further (1 + length bytes) o ≡ further (length (92 ∷ bytes)) o
sought_escape bytes o = ap (λ (n : ℕ). further n o) (omega arith)

-- ---- looking for a byte to cut at
abbrev pub Passed : ℕ → List ℕ → List ℕ → Type 0
Passed c s rest = (p : List ℕ) × (s ≡ p ++ rest) × (parts c s ≡ ahead p (parts c rest))

pub ahead_twice : (xs ys : List ℕ) (ps : List (List ℕ)) → ahead xs (ahead ys ps) ≡ ahead (xs ++ ys) ps
ahead_twice xs ys [] = refl
ahead_twice xs ys (p ∷ ps) = ap (λ (x : List ℕ). x ∷ ps) (sym (append_assoc xs ys p))

pub parts_other : (c b : ℕ) (ts : List Token) → (b ≡ c → ⊥) → parts_of c (plain b ∷ ts) ≡ ahead (b ∷ []) (parts_of c ts)
parts_other c b ts ne = go (eqb b c) (ne_eqb b c ne)
  where
    go : (e : Bool) → e ≡ false → elim e [ true ↦ [] ∷ parts_of c ts | false ↦ ahead (b ∷ []) (parts_of c ts) ] ≡ ahead (b ∷ []) (parts_of c ts)
    go false p = refl
    go true p = let z : ◌≡◌ {A = ℕ} 0 1 = cc in absurd (omega arith)

pub parts_here : (c b : ℕ) (ts : List Token) → b ≡ c → parts_of c (plain b ∷ ts) ≡ [] ∷ parts_of c ts
parts_here c b ts is = go (eqb b c) (eq-eqb b c is)
  where
    go : (e : Bool) → e ≡ true → elim e [ true ↦ [] ∷ parts_of c ts | false ↦ ahead (b ∷ []) (parts_of c ts) ] ≡ [] ∷ parts_of c ts
    go true p = refl
    go false p = let z : ◌≡◌ {A = ℕ} 0 1 = cc in absurd (omega arith)

pub ahead_none : (c : ℕ) (ts : List Token) → parts_of c ts ≡ ahead [] (parts_of c ts)
ahead_none c [] = refl
ahead_none c (plain b ∷ ts) = go (eqb b c)
  where
    go : (e : Bool) → elim e [ true ↦ [] ∷ parts_of c ts | false ↦ ahead (b ∷ []) (parts_of c ts) ] ≡ ahead [] (elim e [ true ↦ [] ∷ parts_of c ts | false ↦ ahead (b ∷ []) (parts_of c ts) ])
    go true = refl
    go false = sym (ahead_twice [] (b ∷ []) (parts_of c ts))
ahead_none c (escape bytes b ∷ ts) = sym (ahead_twice [] (92 ∷ bytes) (parts_of c ts))
ahead_none c (broken rest ∷ ts) = sym (ahead_twice [] (92 ∷ rest) (parts_of c ts))

pub passed_start : (c : ℕ) (s : List ℕ) → Passed c s s
passed_start c s = ([], refl, ahead_none c (tokens s))

pub passed_more : (c : ℕ) (s rest more : List ℕ) (t : Token) → t ∷ tokens more ≡ tokens rest → parts_of c (t ∷ tokens more) ≡ ahead (spelt t) (parts c more) → Passed c s rest → Passed c s more
passed_more c s rest more t e one w =
    let f = front_text rest more t e in (
      w.0 ++ spelt t,
      w.1 ∙ ap (λ (x : List ℕ). w.0 ++ x) f ∙ sym (append_assoc w.0 (spelt t) more),
      w.2 ∙ ap (λ (ts : List Token). ahead w.0 (parts_of c ts)) (sym e) ∙ ap (ahead w.0) one ∙ ahead_twice w.0 (spelt t) (parts c more),
    )

pub passed_all : (c : ℕ) (s rest : List ℕ) (ts : List Token) → ts ≡ tokens rest → parts_of c ts ≡ text ts ∷ [] → Passed c s rest → s ∷ [] ≡ parts c s
passed_all c s rest ts e one w =
    let r : text ts ≡ rest = ap text e ∙ text_tokens rest in
    ap (λ (x : List ℕ). x ∷ []) (w.1 ∙ ap (λ (x : List ℕ). w.0 ++ x) (sym r))
    ∙ sym (w.2 ∙ ap (λ (us : List Token). ahead w.0 (parts_of c us)) (sym e) ∙ ap (ahead w.0) one)

-- what was passed stands before the rest
passed_front : (c : ℕ) (s rest : List ℕ) (w : Passed c s rest) → take (length s - length rest) s ≡ w.0
passed_front c s rest w =
    let n : length s - length rest ≡ length w.0 = omega (arith, front_of w.0 rest s w.1) in
    ap (λ (k : ℕ). take k s) n ∙ ap (take (length w.0)) w.1 ∙ take_at w.0 rest (length w.0) refl

pub passed_here : (c b : ℕ) (s rest more : List ℕ) → plain b ∷ tokens more ≡ tokens rest → b ≡ c → Passed c s rest → take (length s - length rest) s ∷ parts c more ≡ parts c s
passed_here c b s rest more e is w =
    ap (λ (x : List ℕ). x ∷ parts c more) (passed_front c s rest w ∙ sym (append-nil w.0))
    ∙ sym (w.2 ∙ ap (λ (ts : List Token). ahead w.0 (parts_of c ts)) (sym e) ∙ ap (ahead w.0) (parts_here c b (tokens more) is))

pub passed_joins : (c b : ℕ) (s rest more : List ℕ) → plain b ∷ tokens more ≡ tokens rest → b ≡ c → Passed c s rest → s ≡ take (length s - length rest) s ++ (c ∷ more)
passed_joins c b s rest more e is w =
    w.1 ∙ ap (λ (x : List ℕ). w.0 ++ x) (front_text rest more (plain b) e ∙ ap (λ (x : ℕ). x ∷ more) is)
    ∙ ap (λ (x : List ℕ). x ++ (c ∷ more)) (sym (passed_front c s rest w))
