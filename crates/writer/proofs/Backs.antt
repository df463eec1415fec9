-- The canonical line reads back: its parts are those that were put together, and each has its form.
use Rattle.std.proofs.Common.{◌≡◌, ℕ, ◌+◌, Bool, true, false, cond, eqb, leb, List, [], ◌∷◌, ◌++◌, map, length, take, Some, None, Option, sym, refl, ap, ◌∙◌, subst, append_assoc, append-nil, arith, length-append, take_at}
use Rattle.std.proofs.lemmas.Bool.{leb-true, eqb-true, eq-eqb, le-leb}
use Rattle.std.specs.List.{AllByRecursion}
use Rattle.escape.specs.Tokens.{digit, tokens, first_broken, parts, resolved, further}
use Rattle.escape.specs.Spelling.{spelling}
use Rattle.escape.proofs.Chunks.{Chunk, chunk_none, chunk_plain, chunk_both, chunk_last, chunk_before, chunk_means, chunk_spelling, chunk_tame, at_colon, at_slash, Tame, tame_spelling, Seen, seen_both, seen_spelling, seen_tame}
use Rattle.line.specs.Forms.{Side, command, answer, Address, visible, capital, name_byte, every, two_digits, address_of, is_mark, mark_of, check_of, is_first_field}
use Rattle.line.specs.Lines.{meant, Parts, parted, check_place, one_more, all_ended, first_and_later, fields_of, first_invisible, sum_fault, check_fault, parts_read, reading}
use Rattle.writer.specs.Canonical.{in_two_digits, address_text, ended, body_text, head_text, closed, canonical, is_address, first_formed, formed}
use Rattle.writer.specs.Laws.{Bytes, ReadsBack}
use Rattle.writer.proofs.Addresses.{both, never, tame_digit, every_tame, two_tame, two_back, formed_address}

-- ---- names, statuses and marks stand for themselves
tame_capital : (b : ℕ) → capital b ≡ true → Tame b
tame_capital b e =
    let h = both (leb 65 b) (leb b 90) e in
    let low = leb-true 65 b h.0 in
    let high = leb-true b 90 h.1 in
    (omega arith, omega arith, λ e. omega arith, λ e. omega arith, λ e. omega arith)

tame_at : (b k : ℕ) → Tame k → eqb b k ≡ true → Tame b
tame_at b k w e = subst Tame (sym (eqb-true b k e)) w

tame_name_byte : (b : ℕ) → name_byte b ≡ true → Tame b
tame_name_byte b e = go (capital b) refl (digit b) refl e
  where
    go : (p : Bool) → capital b ≡ p → (q : Bool) → digit b ≡ q → cond p true (cond q true (eqb b 95)) ≡ true → Tame b
    go true p q0 q e = tame_capital b p
    go false p true q e = tame_digit b q
    go false p false q e = tame_at b 95 (omega arith, omega arith, λ e. omega arith, λ e. omega arith, λ e. omega arith) e

pub tame_mark : (side : Side) (m : ℕ) → is_mark side m ≡ true → Tame m
tame_mark command m e = tame_digit m e
tame_mark answer m e = go (digit m) refl (eqb m 33) refl e
  where
    go : (p : Bool) → digit m ≡ p → (q : Bool) → eqb m 33 ≡ q → cond p true (cond q true (eqb m 63)) ≡ true → Tame m
    go true p q0 q e = tame_digit m p
    go false p true q e = tame_at m 33 (omega arith, omega arith, λ e. omega arith, λ e. omega arith, λ e. omega arith) q
    go false p false q e = tame_at m 63 (omega arith, omega arith, λ e. omega arith, λ e. omega arith, λ e. omega arith) e

pub tame_first : (side : Side) (f : List ℕ) → is_first_field side f ≡ true → AllByRecursion Tame f
tame_first command [] e = never e
tame_first command (a ∷ s) e =
    let h = both (capital a) _ e in
    let k = both (every name_byte s) _ h.1 in
    (tame_capital a h.0, every_tame name_byte tame_name_byte s k.0)
tame_first answer [] e = never e
tame_first answer (a ∷ []) e = never e
tame_first answer (a ∷ b ∷ []) e = never e
tame_first answer (a ∷ b ∷ c ∷ []) e =
    let h = both (digit a) _ e in
    let k = both (digit b) _ h.1 in
    (tame_digit a h.0, (tame_digit b k.0, (tame_digit c k.1, tt)))
tame_first answer (a ∷ b ∷ c ∷ d ∷ s) e = never e

-- ---- the body
ended_before : (f rest : List ℕ) → ended f ++ rest ≡ spelling f ++ (58 ∷ rest)
ended_before f rest = append_assoc (spelling f) (58 ∷ []) rest

pub body_parts : (fs : List (List ℕ)) → Bytes fs → parts 58 (body_text fs) ≡ map spelling fs ++ ([] ∷ [])
body_parts [] h = refl
body_parts (f ∷ fs) h =
    ap (parts 58) (ended_before f (body_text fs))
    ∙ chunk_before 58 (spelling f) f (body_text fs) (λ e. omega arith) (chunk_spelling 58 f at_colon h.0)
    ∙ ap (λ (ps : List (List ℕ)). spelling f ∷ ps) (body_parts fs h.1)

all_end : (ps : List (List ℕ)) → all_ended (ps ++ ([] ∷ [])) ≡ Some ps
all_end [] = refl
all_end (p ∷ []) = refl
all_end (p ∷ q ∷ ps) = ap (one_more p) (all_end (q ∷ ps))

pub body_fields_of : (f : List ℕ) (fs : List (List ℕ)) → Bytes (f ∷ fs) → fields_of (body_text (f ∷ fs)) ≡ Some (spelling f, map spelling fs)
body_fields_of f fs h = ap (λ (ps : List (List ℕ)). first_and_later (all_ended ps)) (body_parts (f ∷ fs) h) ∙ ap first_and_later (all_end (map spelling (f ∷ fs)))

resolves : (fs : List (List ℕ)) → Bytes fs → map resolved (map spelling fs) ≡ fs
resolves [] h = refl
resolves (f ∷ fs) h = let p = chunk_means 58 (spelling f) f (chunk_spelling 58 f at_colon h.0) in let q = resolves fs h.1 in cc

pub means_of : List (List ℕ) → List ℕ
means_of [] = []
means_of (f ∷ fs) = (f ++ (58 ∷ [])) ++ means_of fs

body_chunk : (fs : List (List ℕ)) → Bytes fs → Chunk 47 (body_text fs) (means_of fs)
unfolding means_of
body_chunk [] h = chunk_none 47
body_chunk (f ∷ fs) h =
    chunk_both 47 (ended f) (f ++ (58 ∷ [])) (body_text fs) (means_of fs)
    (chunk_both 47 (spelling f) f (58 ∷ []) (58 ∷ []) (chunk_spelling 47 f at_slash h.0) (chunk_plain 47 58 (λ e. omega arith) (λ e. omega arith)))
    (body_chunk fs h.1)

body_seen : (fs : List (List ℕ)) → Bytes fs → AllByRecursion Seen (body_text fs)
body_seen [] h = tt
body_seen (f ∷ fs) h = seen_both (ended f) (body_text fs) (seen_both (spelling f) (58 ∷ []) (seen_spelling f h.0) ((omega arith, omega arith), tt)) (body_seen fs h.1)

-- ---- the line
invisible_none : (s : List ℕ) → AllByRecursion Seen s → first_invisible s ≡ None
invisible_none [] h = refl
invisible_none (b ∷ s) h = go (visible b) (rw (le-leb 32 b h.0.0) (le-leb b 126 h.0.1)) (invisible_none s h.1)
  where
    go : (v : Bool) → v ≡ true → first_invisible s ≡ None → ◌≡◌ {A = Option ℕ} (elim v [ true ↦ further 1 (first_invisible s) | false ↦ Some 0 ]) None
    go true e later = ap (further 1) later
    go false e later = never e

-- its parts in one row
pub in_a_row : (a b c : List ℕ) (m : ℕ) → (head_text a m ++ b) ++ (47 ∷ c) ≡ a ++ (47 ∷ m ∷ 47 ∷ (b ++ (47 ∷ c)))
in_a_row a b c m = append_assoc (head_text a m) b (47 ∷ c) ∙ append_assoc a (47 ∷ m ∷ 47 ∷ []) (b ++ (47 ∷ c))

-- what is known of the four parts
pub record Sound (a b c bm : List ℕ) (m : ℕ) : Type 0 where
  pub address : AllByRecursion Tame a
  pub mark : Tame m
  pub body : Chunk 47 b bm
  pub seen : AllByRecursion Seen b
  pub check : AllByRecursion Tame c

four_parts : (a b c bm : List ℕ) (m : ℕ) → Sound a b c bm m → parts 47 (a ++ (47 ∷ m ∷ 47 ∷ (b ++ (47 ∷ c)))) ≡ a ∷ (m ∷ []) ∷ b ∷ c ∷ []
four_parts a b c bm m w =
    let no : ◌≡◌ {A = ℕ} 47 92 → ⊥ = λ e. omega arith in
    chunk_before 47 a a (m ∷ 47 ∷ (b ++ (47 ∷ c))) no (chunk_tame 47 a at_slash w.address)
    ∙ ap (λ (ps : List (List ℕ)). a ∷ ps)
    (chunk_before 47 (m ∷ []) (m ∷ []) (b ++ (47 ∷ c)) no (chunk_tame 47 (m ∷ []) at_slash (w.mark, tt))
    ∙ ap (λ (ps : List (List ℕ)). (m ∷ []) ∷ ps)
    (chunk_before 47 b bm c no w.body ∙ ap (λ (ps : List (List ℕ)). b ∷ ps) (chunk_last 47 c c (chunk_tame 47 c at_slash w.check))))

all_seen : (a b c bm : List ℕ) (m : ℕ) → Sound a b c bm m → AllByRecursion Seen (a ++ (47 ∷ m ∷ 47 ∷ (b ++ (47 ∷ c))))
all_seen a b c bm m w =
    let slash : Seen 47 = (omega arith, omega arith) in
    seen_both a _ (seen_tame a w.address) (slash, ((w.mark.0, w.mark.1), (slash, seen_both b (47 ∷ c) w.seen (slash, seen_tame c w.check))))

all_unbroken : (a b c bm : List ℕ) (m : ℕ) → Sound a b c bm m → first_broken (tokens (a ++ (47 ∷ m ∷ 47 ∷ (b ++ (47 ∷ c))))) ≡ None
all_unbroken a b c bm m w =
    let slash : Chunk 58 (47 ∷ []) (47 ∷ []) = chunk_plain 58 47 (λ e. omega arith) (λ e. omega arith) in
    let end : first_broken (tokens c) ≡ None = subst (λ (x : List ℕ). first_broken (tokens x) ≡ None) (append-nil c) ((chunk_tame 47 c at_slash w.check).unbroken [] refl) in
    let after_mark = 47 ∷ (b ++ (47 ∷ c)) in
    (chunk_tame 47 a at_slash w.address).unbroken (47 ∷ m ∷ after_mark)
    (slash.unbroken (m ∷ after_mark) ((chunk_tame 47 (m ∷ []) at_slash (w.mark, tt)).unbroken after_mark (slash.unbroken (b ++ (47 ∷ c)) (w.body.unbroken (47 ∷ c) (slash.unbroken c end)))))

-- ---- reading, step by step
pub reading_by : (side : Side) (line : List ℕ) (p : Parts) → leb (length line) 1024 ≡ true → first_invisible line ≡ None → first_broken (tokens line) ≡ None → parted side (parts 47 line) ≡ Some p
    → reading side line ≡ parts_read side p (take (check_place p) line)
reading_by side line p short seen whole cut = rw (short, seen, whole, cut)

parts_by : (side : Side) (summed c : List ℕ) (p : Parts) (a : Address) (m : ℕ) (f : List ℕ × List (List ℕ)) →
    address_of side p.address ≡ Some a → mark_of side p.mark ≡ Some m → p.check ≡ Some c → two_digits c ≡ Some (check_of summed) → fields_of p.body ≡ Some f → is_first_field side f.0 ≡ true
    → parts_read side p summed ≡ meant (record { side = side; address = a; mark = m; fields = f.0 ∷ map resolved f.1 })
parts_by side summed c p a m f ea em ec et ef ei =
    let right : check_fault summed p.check ≡ None = ap (check_fault summed) ec ∙ ap (λ (o : Option ℕ). sum_fault o (check_of summed)) et ∙ rw (eq-eqb (check_of summed) (check_of summed) refl) in
    rw (ea, em, right, ef, ei)

mark_back : (side : Side) (m : ℕ) → is_mark side m ≡ true → mark_of side (m ∷ []) ≡ Some m
mark_back side m e = rw e

four_parted : (side : Side) (a m b c : List ℕ) → parted side (a ∷ m ∷ b ∷ c ∷ []) ≡ Some (record { address = a; mark = m; body = b; check = Some c })
four_parted side a m b c = refl

-- the parts of a message that has its forms
pub sound : (side : Side) (a : Address) (m : ℕ) (f : List ℕ) (fs : List (List ℕ)) → is_address side a ≡ true → is_mark side m ≡ true → Bytes (f ∷ fs)
    → Sound (address_text a) (body_text (f ∷ fs)) (in_two_digits (check_of ((head_text (address_text a) m ++ body_text (f ∷ fs)) ++ (47 ∷ [])))) (means_of (f ∷ fs)) m
sound side a m f fs ha hm hb = record {
  address = (formed_address side a ha).tame;
  mark = tame_mark side m hm;
  body = body_chunk (f ∷ fs) hb;
  seen = body_seen (f ∷ fs) hb;
  check = two_tame (check_of ((head_text (address_text a) m ++ body_text (f ∷ fs)) ++ (47 ∷ []))) (omega arith);
}

pub parts_of_canonical : (side : Side) (a : Address) (m : ℕ) (f : List ℕ) (fs : List (List ℕ)) → is_address side a ≡ true → is_mark side m ≡ true → Bytes (f ∷ fs)
    → parts 47 (closed (head_text (address_text a) m ++ body_text (f ∷ fs))) ≡ address_text a ∷ (m ∷ []) ∷ body_text (f ∷ fs) ∷ in_two_digits (check_of ((head_text (address_text a) m ++ body_text (f ∷ fs)) ++ (47 ∷ []))) ∷ []
parts_of_canonical side a m f fs ha hm hb =
    ap (parts 47) (in_a_row (address_text a) (body_text (f ∷ fs)) _ m) ∙ four_parts (address_text a) (body_text (f ∷ fs)) _ (means_of (f ∷ fs)) m (sound side a m f fs ha hm hb)

up_to_check : (a b c : List ℕ) (m : ℕ) → take (length a + 1 + length (m ∷ []) + 1 + length b + 1) ((head_text a m ++ b) ++ (47 ∷ c)) ≡ (head_text a m ++ b) ++ (47 ∷ [])
up_to_check a b c m =
    let l = head_text a m ++ b in
    ap (take (length a + 1 + length (m ∷ []) + 1 + length b + 1)) (sym (append_assoc l (47 ∷ []) c))
    ∙ take_at (l ++ (47 ∷ [])) c (length a + 1 + length (m ∷ []) + 1 + length b + 1)
    (omega (arith, length-append l (47 ∷ []), length-append (head_text a m) b, length-append a (47 ∷ m ∷ 47 ∷ [])))

back : (side : Side) (a : Address) (m : ℕ) (f : List ℕ) (fs : List (List ℕ)) → is_address side a ≡ true → is_mark side m ≡ true → is_first_field side f ≡ true → Bytes (f ∷ fs)
    → leb (length (closed (head_text (address_text a) m ++ body_text (f ∷ fs)))) 1024 ≡ true
    → reading side (closed (head_text (address_text a) m ++ body_text (f ∷ fs))) ≡ meant (record { side = side; address = a; mark = m; fields = f ∷ fs })
back side a m f fs ha hm hf hb short =
    let t = address_text a in
    let b = body_text (f ∷ fs) in
    let l = head_text t m ++ b in
    let c = in_two_digits (check_of (l ++ (47 ∷ []))) in
    let line = closed l in
    let p : Parts = record { address = t; mark = m ∷ []; body = b; check = Some c } in
    let row = in_a_row t b c m in
    let w = sound side a m f fs ha hm hb in
    let same : spelling f ≡ f = tame_spelling f (tame_first side f hf) in
    let seen : first_invisible line ≡ None = ap first_invisible row ∙ invisible_none _ (all_seen t b c (means_of (f ∷ fs)) m w) in
    let whole : first_broken (tokens line) ≡ None = ap (λ (x : List ℕ). first_broken (tokens x)) row ∙ all_unbroken t b c (means_of (f ∷ fs)) m w in
    let cut : parted side (parts 47 line) ≡ Some p = ap (parted side) (parts_of_canonical side a m f fs ha hm hb) ∙ four_parted side t (m ∷ []) b c in
    let summed : two_digits c ≡ Some (check_of (take (check_place p) line)) = two_back (check_of (l ++ (47 ∷ []))) (omega arith) ∙ ap (λ (x : List ℕ). Some (check_of x)) (sym (up_to_check t b c m)) in
    let read = parts_by side (take (check_place p) line) c p a m (spelling f, map spelling fs) (formed_address side a ha).read (mark_back side m hm) refl summed (body_fields_of f fs hb) (ap (is_first_field side) same ∙ hf) in
    reading_by side line p short seen whole cut ∙ read
    ∙ ap (λ (g : List (List ℕ)). meant (record { side = side; address = a; mark = m; fields = g })) (fields_are f fs same hb)
  where
    fields_are : (f : List ℕ) (fs : List (List ℕ)) → spelling f ≡ f → Bytes (f ∷ fs) → spelling f ∷ map resolved (map spelling fs) ≡ f ∷ fs
    fields_are f fs same hb = let q = resolves fs hb.1 in cc

pub reads_back : ReadsBack
reads_back m ok hb =
    let f = both (formed m) (leb (length (canonical m)) 1024) ok in
    let g = both (is_address m.side m.address) _ f.0 in
    let h = both (is_mark m.side m.mark) (first_formed m.side m.fields) g.1 in
    go m.side m.address m.mark m.fields g.0 h.0 h.1 hb f.1
  where
    go : (side : Side) (a : Address) (mark : ℕ) (fs : List (List ℕ)) → is_address side a ≡ true → is_mark side mark ≡ true → first_formed side fs ≡ true → Bytes fs
        → leb (length (closed (head_text (address_text a) mark ++ body_text fs))) 1024 ≡ true
        → reading side (closed (head_text (address_text a) mark ++ body_text fs)) ≡ meant (record { side = side; address = a; mark = mark; fields = fs })
    go side a mark [] ha hm hf hb short = never hf
    go side a mark (f ∷ fs) ha hm hf hb short = back side a mark f fs ha hm hf hb short
