-- What pump takes from the bytes that wait, in terms of the whole unfinished line; and whole lines in a stream.
use Rattle.std.proofs.Common.{◌≡◌, ℕ, ◌<◌, ◌≤◌, Bool, true, false, ◌⊎◌, List, [], ◌∷◌, ◌++◌, map, length, take, sym, refl, ap, ◌∙◌, inl, inr, append_assoc, append-nil, arith, length-take}
use Rattle.std.proofs.lemmas.List.{map-append, take_all}
use Rattle.std.proofs.lemmas.Bool.{cases_lt, lt-ltb, le-ltb}
use Rattle.line.specs.Lines.{Read}
use Rattle.reader.specs.Stream.{run, after}
use Rattle.reader.specs.Cutting.{is_end, lines_from, left_from, lines_read, Part, bare, by_parts}
use Rattle.reader.proofs.Cutting.{FirstAt, first_at, left_append, lines_append, lines_end, left_end, squeeze, after_squeezed, none_squeezed, parts_gave}
use Rattle.life.specs.Codec.{Codec, Lawful, no_ends, read_part}
use Rattle.life.specs.Calls.{Kind, Begins, add_to}
use Rattle.life.specs.Link.{State, Hands}

pub add_is : {X : Type 0} (xs ys : List X) → add_to xs ys ≡ xs ++ ys
add_is xs [] = sym (append-nil xs)
add_is xs (y ∷ ys) = refl

-- ---- whole lines in a stream
pub lines_end_more : (u : List ℕ) (e : ℕ) (rest : List ℕ) → is_end e ≡ true → 0 < length u → lines_from u (e ∷ rest) ≡ u ∷ lines_from [] rest
lines_end_more [] e rest is l = absurd (omega arith)
lines_end_more (x ∷ u) e rest is l = rw is

pub begins_read : {X : Type 0} (f : List ℕ → X) (xs ys : List ℕ) → Begins (lines_read f xs) (lines_read f (xs ++ ys))
begins_read f xs ys = (map f (lines_from (left_from [] xs) ys), sym (ap (map f) (lines_append [] xs ys) ∙ map-append f (lines_from [] xs) (lines_from (left_from [] xs) ys)))

-- bytes with no end among them
clean_head : (b : ℕ) (l : List ℕ) → no_ends (b ∷ l) ≡ true → (is_end b ≡ false) × (no_ends l ≡ true)
clean_head b l h = go (is_end b) refl
  where
    go : (v : Bool) → is_end b ≡ v → (is_end b ≡ false) × (no_ends l ≡ true)
    go true e = let k : false ≡ true = rw e at h in absurd (let z : ◌≡◌ {A = ℕ} 0 1 = cc in omega arith)
    go false e = (e, rw e at h)

pub left_clean : (u l : List ℕ) → no_ends l ≡ true → left_from u l ≡ u ++ l
left_clean u [] h = sym (append-nil u)
left_clean u (b ∷ l) h = let c = clean_head b l h in rw c.0 (left_clean (u ++ (b ∷ [])) l c.1 ∙ append_assoc u (b ∷ []) l)

pub lines_clean : (u l : List ℕ) → no_ends l ≡ true → lines_from u l ≡ []
lines_clean u [] h = refl
lines_clean u (b ∷ l) h = let c = clean_head b l h in rw c.0 (lines_clean (u ++ (b ∷ [])) l c.1)

-- such a line and its end
pub lines_one : (l : List ℕ) (e : ℕ) → no_ends l ≡ true → is_end e ≡ true → 0 < length l → lines_from [] (l ++ (e ∷ [])) ≡ l ∷ []
lines_one l e c is n = lines_append [] l (e ∷ []) ∙ rw (lines_clean [] l c, left_clean [] l c) (lines_end l e is n)

pub left_one : (l : List ℕ) (e : ℕ) → is_end e ≡ true → left_from [] (l ++ (e ∷ [])) ≡ []
left_one l e is = left_append [] l (e ∷ []) ∙ left_end (left_from [] l) e is

-- ---- the unfinished line
pub read_squeezed : (K : Codec) → Lawful K → (u : List ℕ) → read_part K (squeeze 1024 u) ≡ K.as_answer u
read_squeezed K L u = go (cases_lt 1024 (length u))
  where
    go : (1024 < length u) ⊎ (length u ≤ 1024) → read_part K (squeeze 1024 u) ≡ K.as_answer u
    go (inl l) = rw (lt-ltb 1024 (length u) l) (sym (L.too_long u l))
    go (inr l) = rw (le-ltb 1024 (length u) l, take_all 1024 u l)

-- Pump takes bytes up to the end of a line. u is all of the unfinished line, also what is not held of it.
pub record Takes (K : Codec) (u incoming : List ℕ) (l : List ℕ) (r : Read) (rest : List ℕ) : Type 0 where
  pub front : List ℕ
  pub stop : ℕ
  pub took : incoming ≡ front ++ (stop ∷ rest)
  pub ends : is_end stop ≡ true
  pub none_before : lines_from u front ≡ []
  pub not_empty : 0 < length (left_from u front)
  pub stands : l ≡ take 1024 (left_from u front)
  pub read : r ≡ K.as_answer (left_from u front)

pub takes : (K : Codec) → Lawful K → (s t : State) (k : Kind) (l : List ℕ) (r : Read) → Hands K s k l r t → (u : List ℕ) → squeeze 1024 u ≡ s.unfinished → Takes K u s.port.incoming l r t.port.incoming × (t.unfinished ≡ bare)
takes K L s t k l r hd u is = (
  record {
    front = f.front;
    stop = f.stop;
    took = f.split;
    ends = g.0;
    none_before = none_squeezed u f.front (ap (λ (z : Part). run by_parts z f.front) is ∙ f.none_before);
    not_empty = let n = g.2 in let e = ap (λ (z : Part). length z.kept) view in let h = length-take 1024 line in omega arith;
    stands = hd.stands ∙ ap (λ (z : Part). z.kept) held_is;
    read = hd.read ∙ ap (read_part K) held_is ∙ read_squeezed K L line;
  },
  sym f.then_held ∙ rw g.0,
)
  where
    f : FirstAt by_parts s.unfinished s.port.incoming hd.held t.unfinished t.port.incoming
    f = first_at by_parts s.unfinished s.port.incoming hd.held t.unfinished t.port.incoming hd.cut

    g : (is_end f.stop ≡ true) × (after by_parts s.unfinished f.front ≡ hd.held) × (0 < length (after by_parts s.unfinished f.front).kept)
    g = parts_gave (after by_parts s.unfinished f.front) f.stop hd.held f.others f.gave

    line : List ℕ
    line = left_from u f.front

    view : after by_parts s.unfinished f.front ≡ squeeze 1024 line
    view = ap (λ (z : Part). after by_parts z f.front) (sym is) ∙ after_squeezed u f.front

    held_is : hd.held ≡ squeeze 1024 line
    held_is = sym g.1 ∙ view
