-- A chunk of a line: bytes that are whole tokens, none of them broken and none the plain byte `c`, whatever follows.
use Rattle.std.proofs.Common.{◌≡◌, ℕ, ◌+◌, ◌/◌, ◌%◌, ◌<◌, ◌≤◌, Bool, true, false, cond, eqb, leb, List, [], ◌∷◌, ◌++◌, length, Some, None, Option, sym, refl, ap, ◌∙◌, subst, append_assoc, append-nil, arith, ne_eqb, eqb-true, le-leb}
use Rattle.std.proofs.lemmas.Bool.{leb-true}
use Rattle.std.specs.List.{AllByRecursion}
use Rattle.escape.specs.Tokens.{Token, tokens, short, numbered, three_digits, further, first_broken, ahead, parts_of, parts, resolved, bytes_meant}
use Rattle.escape.specs.Spelling.{letter_for, in_digits, spelled_with, spelled, spelling}
use Rattle.escape.proofs.Opening.{tokens_plain}
use Rattle.escape.proofs.ByTokens.{Escapes, by_letter, by_number, tokens_escape}
use Rattle.escape.proofs.Walking.{parts_other, parts_here, ahead_twice, ahead_none}

pub record Chunk (c : ℕ) (s bs : List ℕ) : Type 0 where
  pub unbroken : (t : List ℕ) → first_broken (tokens t) ≡ None → first_broken (tokens (s ++ t)) ≡ None
  pub uncut : (t : List ℕ) → parts c (s ++ t) ≡ ahead s (parts c t)
  pub means : (t : List ℕ) → resolved (s ++ t) ≡ bs ++ resolved t

pub chunk_none : (c : ℕ) → Chunk c [] []
chunk_none c = record { unbroken = λ t h. h; uncut = λ t. ahead_none c (tokens t); means = λ t. refl }

pub chunk_plain : (c b : ℕ) → (b ≡ 92 → ⊥) → (b ≡ c → ⊥) → Chunk c (b ∷ []) (b ∷ [])
chunk_plain c b ne other = record {
  unbroken = λ t h. ap first_broken (tokens_plain b t ne) ∙ ap (further 1) h;
  uncut = λ t. ap (parts_of c) (tokens_plain b t ne) ∙ parts_other c b (tokens t) other;
  means = λ t. ap bytes_meant (tokens_plain b t ne);
}

pub chunk_escape : (c b : ℕ) (e : List ℕ) → Escapes e b → Chunk c (92 ∷ e) (b ∷ [])
chunk_escape c b e w = record {
  unbroken = λ t h. ap first_broken (tokens_escape w t) ∙ ap (further (1 + length e)) h;
  uncut = λ t. ap (parts_of c) (tokens_escape w t);
  means = λ t. ap bytes_meant (tokens_escape w t);
}

pub chunk_both : (c : ℕ) (s bs t ds : List ℕ) → Chunk c s bs → Chunk c t ds → Chunk c (s ++ t) (bs ++ ds)
chunk_both c s bs t ds p q = record {
  unbroken = λ u h. rw (append_assoc s t u) (p.unbroken (t ++ u) (q.unbroken u h));
  uncut = λ u. rw (append_assoc s t u) (p.uncut (t ++ u) ∙ ap (ahead s) (q.uncut u) ∙ ahead_twice s t (parts c u));
  means = λ u. rw (append_assoc s t u, append_assoc bs ds (resolved u)) (p.means (t ++ u) ∙ ap (λ (x : List ℕ). bs ++ x) (q.means u));
}

-- what the chunk is alone, and before the byte that it is cut at
pub chunk_last : (c : ℕ) (s bs : List ℕ) → Chunk c s bs → parts c s ≡ s ∷ []
chunk_last c s bs p = subst (λ (x : List ℕ). parts c x ≡ s ∷ []) (append-nil s) (p.uncut [] ∙ ap (λ (x : List ℕ). x ∷ []) (append-nil s))

pub chunk_before : (c : ℕ) (s bs t : List ℕ) → (c ≡ 92 → ⊥) → Chunk c s bs → parts c (s ++ (c ∷ t)) ≡ s ∷ parts c t
chunk_before c s bs t ne p =
    p.uncut (c ∷ t) ∙ ap (λ (ts : List Token). ahead s (parts_of c ts)) (tokens_plain c t ne) ∙ ap (ahead s) (parts_here c c (tokens t) refl)
    ∙ ap (λ (x : List ℕ). x ∷ parts c t) (append-nil s)

pub chunk_means : (c : ℕ) (s bs : List ℕ) → Chunk c s bs → resolved s ≡ bs
chunk_means c s bs p = subst (λ (x : List ℕ). resolved x ≡ bs) (append-nil s) (p.means [] ∙ append-nil bs)

-- ---- what a byte is spelled as
pub data Spelt (b : ℕ) : List ℕ → Type 0 where
  as_it_is : 32 ≤ b → b ≤ 126 → letter_for b ≡ None → Spelt b (b ∷ [])
  by_escape : (e : List ℕ) → Escapes e b → AllByRecursion (λ x. (32 ≤ x) × (x ≤ 126)) e → Spelt b (92 ∷ e)

Shortened : ℕ → ℕ → Type 0
Shortened b x = (short x ≡ Some b) × ((32 ≤ x) × (x ≤ 126))

shortened : (b x k j : ℕ) → eqb b k ≡ true → Some j ≡ Some x → short j ≡ Some k → 32 ≤ j → j ≤ 126 → Shortened b x
unfolding Shortened
shortened b x k j is e w low high =
    let at : b ≡ k = eqb-true b k is in
    let same : j ≡ x = cc in
    (ap short (sym same) ∙ w ∙ ap Some (sym at), (omega arith, omega arith))

is_short : (b x : ℕ) → letter_for b ≡ Some x → Shortened b x
is_short b x = go (eqb b 58) refl (eqb b 47) refl (eqb b 92) refl (eqb b 10) refl (eqb b 13) refl (eqb b 9) refl
  where
    go : (p : Bool) → eqb b 58 ≡ p → (q : Bool) → eqb b 47 ≡ q → (r : Bool) → eqb b 92 ≡ r → (u : Bool) → eqb b 10 ≡ u → (v : Bool) → eqb b 13 ≡ v → (w : Bool) → eqb b 9 ≡ w →
        cond p (Some 58) (cond q (Some 47) (cond r (Some 92) (cond u (Some 110) (cond v (Some 114) (cond w (Some 116) None))))) ≡ Some x → Shortened b x
    go true p q0 q r0 r u0 u v0 v w0 w e = shortened b x 58 58 p e refl (omega arith) (omega arith)
    go false p true q r0 r u0 u v0 v w0 w e = shortened b x 47 47 q e refl (omega arith) (omega arith)
    go false p false q true r u0 u v0 v w0 w e = shortened b x 92 92 r e refl (omega arith) (omega arith)
    go false p false q false r true u v0 v w0 w e = shortened b x 10 110 u e refl (omega arith) (omega arith)
    go false p false q false r false u true v w0 w e = shortened b x 13 114 v e refl (omega arith) (omega arith)
    go false p false q false r false u false v true w e = shortened b x 9 116 w e refl (omega arith) (omega arith)
    go false p false q false r false u false v false w e = let z : ◌≡◌ {A = ℕ} 0 1 = cc in absurd (omega arith)

-- three digits of a byte's number
pub numbered_is : (x y z : ℕ) → 48 ≤ x → x ≤ 57 → 48 ≤ y → y ≤ 57 → 48 ≤ z → z ≤ 57 → three_digits x y z ≤ 255 → numbered x y z ≡ Some (three_digits x y z)
numbered_is x y z a b c d e f g = rw (le-leb 48 x a, le-leb x 57 b, le-leb 48 y c, le-leb y 57 d, le-leb 48 z e, le-leb z 57 f, le-leb (three_digits x y z) 255 g)

by_three : (b : ℕ) → b < 256 → Spelt b (in_digits b)
by_three b h =
    let x = 48 + b / 100 in
    let y = 48 + b / 10 % 10 in
    let z = 48 + b % 10 in
    let n : three_digits x y z ≡ b = omega arith in
    by_escape _
    (by_number x y z b (numbered_is x y z (omega arith) (omega arith) (omega arith) (omega arith) (omega arith) (omega arith) (omega arith) ∙ ap Some n))
    ((omega arith, omega arith), ((omega arith, omega arith), ((omega arith, omega arith), ((omega arith, omega arith), tt))))

pub spelt : (b : ℕ) → b < 256 → Spelt b (spelled b)
unfolding Shortened
spelt b h = go (letter_for b) refl
  where
    by_place : letter_for b ≡ None → (l : Bool) → leb 32 b ≡ l → (u : Bool) → leb b 126 ≡ u → Spelt b (cond l (cond u (b ∷ []) (in_digits b)) (in_digits b))
    by_place p true q true r = as_it_is (leb-true 32 b q) (leb-true b 126 r) p
    by_place p true q false r = by_three b h
    by_place p false q u r = by_three b h

    go : (o : Option ℕ) → letter_for b ≡ o → Spelt b (spelled_with o b)
    go (Some x) p = let s = is_short b x p in by_escape (x ∷ []) (by_letter x b s.0) (s.1, tt)
    go None p = by_place p (leb 32 b) refl (leb b 126) refl

-- ---- what is spelled is a chunk, wherever it is cut: at : or at /
pub data Cuts : ℕ → Type 0 where
  at_colon : Cuts 58
  at_slash : Cuts 47

cuts_letter : (c : ℕ) → Cuts c → letter_for c ≡ Some c
cuts_letter c at_colon = refl
cuts_letter c at_slash = refl

unlike : (b k x : ℕ) → letter_for b ≡ None → letter_for k ≡ Some x → b ≡ k → ⊥
unlike b k x p q e = let r = ap letter_for e in let z : ◌≡◌ {A = ℕ} 0 1 = cc in omega arith

pub chunk_spelled : (c b : ℕ) → Cuts c → b < 256 → Chunk c (spelled b) (b ∷ [])
chunk_spelled c b cut h = go (spelled b) (spelt b h)
  where
    go : (s : List ℕ) → Spelt b s → Chunk c s (b ∷ [])
    go s (as_it_is low high p) = chunk_plain c b (unlike b 92 92 p refl) (unlike b c c p (cuts_letter c cut))
    go s (by_escape e w v) = chunk_escape c b e w

pub chunk_spelling : (c : ℕ) (bs : List ℕ) → Cuts c → AllByRecursion (λ b. b < 256) bs → Chunk c (spelling bs) bs
chunk_spelling c [] cut h = chunk_none c
chunk_spelling c (b ∷ bs) cut h = chunk_both c (spelled b) (b ∷ []) (spelling bs) bs (chunk_spelled c b cut h.0) (chunk_spelling c bs cut h.1)

-- ---- bytes that stand for themselves
abbrev pub Tame : ℕ → Type 0
Tame b = (32 ≤ b) × (b ≤ 126) × (b ≡ 58 → ⊥) × (b ≡ 47 → ⊥) × (b ≡ 92 → ⊥)

pub tame_spelled : (b : ℕ) → Tame b → spelled b ≡ b ∷ []
tame_spelled b h =
    rw (ne_eqb b 58 h.2, ne_eqb b 47 h.3, ne_eqb b 92 h.4, ne_eqb b 10 (λ e. omega arith), ne_eqb b 13 (λ e. omega arith), ne_eqb b 9 (λ e. omega arith), le-leb 32 b h.0, le-leb b 126 h.1)

pub tame_spelling : (bs : List ℕ) → AllByRecursion Tame bs → spelling bs ≡ bs
tame_spelling [] h = refl
tame_spelling (b ∷ bs) h = ap (λ (x : List ℕ). x ++ spelling bs) (tame_spelled b h.0) ∙ ap (λ (x : List ℕ). b ∷ x) (tame_spelling bs h.1)

pub chunk_tame : (c : ℕ) (bs : List ℕ) → Cuts c → AllByRecursion Tame bs → Chunk c bs bs
chunk_tame c [] cut h = chunk_none c
chunk_tame c (b ∷ bs) cut h = chunk_both c (b ∷ []) (b ∷ []) bs bs (chunk_plain c b h.0.4 (differs c cut)) (chunk_tame c bs cut h.1)
  where
    differs : (k : ℕ) → Cuts k → b ≡ k → ⊥
    differs k at_colon = h.0.2
    differs k at_slash = h.0.3

-- ---- what is spelled is visible
abbrev pub Seen : ℕ → Type 0
Seen b = (32 ≤ b) × (b ≤ 126)

pub seen_both : (xs ys : List ℕ) → AllByRecursion Seen xs → AllByRecursion Seen ys → AllByRecursion Seen (xs ++ ys)
seen_both [] ys p q = q
seen_both (x ∷ xs) ys p q = (p.0, seen_both xs ys p.1 q)

pub seen_spelled : (b : ℕ) → b < 256 → AllByRecursion Seen (spelled b)
seen_spelled b h = go (spelled b) (spelt b h)
  where
    go : (s : List ℕ) → Spelt b s → AllByRecursion Seen s
    go s (as_it_is low high p) = ((low, high), tt)
    go s (by_escape e w v) = ((omega arith, omega arith), v)

pub seen_spelling : (bs : List ℕ) → AllByRecursion (λ b. b < 256) bs → AllByRecursion Seen (spelling bs)
seen_spelling [] h = tt
seen_spelling (b ∷ bs) h = seen_both (spelled b) (spelling bs) (seen_spelled b h.0) (seen_spelling bs h.1)

pub seen_tame : (bs : List ℕ) → AllByRecursion Tame bs → AllByRecursion Seen bs
seen_tame [] h = tt
seen_tame (b ∷ bs) h = ((h.0.0, h.0.1), seen_tame bs h.1)
