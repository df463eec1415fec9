-- The laws of cutting: a stream cut in pieces is the stream cut whole, and the lines of which only the first bytes are held are
-- the views of the whole lines.
use Rattle.std.proofs.Common.{◌≡◌, ℕ, ◌+◌, ◌<◌, ◌≤◌, Bool, true, false, cond, ltb, ◌⊎◌, List, [], ◌∷◌, ◌++◌, map, length, take, sym, refl, ap, ◌∙◌, subst, inl, inr, append_assoc, arith}
use Rattle.std.proofs.lemmas.List.{map-append, take_all, take-append-le, length-take-le, length_push}
use Rattle.std.proofs.lemmas.Bool.{cases_lt, lt-ltb, le-ltb}
use Rattle.reader.specs.Stream.{Cutter, run, after, Cut, dry_at, cut_off, found, first_cut}
use Rattle.reader.specs.Cutting.{is_end, unless_empty, by_lines, lines_from, left_from, Part, bare, longer, unless_bare, by_parts}

-- ---- of any way to cut
pub after_append : {S X : Type 0} (C : Cutter S X) (s : S) (xs ys : List ℕ) → after C s (xs ++ ys) ≡ after C (after C s xs) ys
after_append C s [] ys = refl
after_append C s (b ∷ xs) ys = after_append C (C.feed s b) xs ys

pub run_append : {S X : Type 0} (C : Cutter S X) (s : S) (xs ys : List ℕ) → run C s (xs ++ ys) ≡ run C s xs ++ run C (after C s xs) ys
run_append C s [] ys = refl
run_append {X = X} C s (b ∷ xs) ys =
    ap (λ (z : List X). C.gives s b ++ z) (run_append C (C.feed s b) xs ys)
    ∙ sym (append_assoc (C.gives s b) (run C (C.feed s b) xs) (run C (after C (C.feed s b) xs) ys))

-- the first item, by all the bytes up to its end
pub record FirstAt {S X : Type 0} (C : Cutter S X) (s : S) (bs : List ℕ) (x : X) (u : S) (rest : List ℕ) : Type 0 where
  pub front : List ℕ
  pub stop : ℕ
  pub others : List X
  pub split : bs ≡ front ++ (stop ∷ rest)
  pub none_before : run C s front ≡ []
  pub gave : C.gives (after C s front) stop ≡ x ∷ others
  pub then_held : C.feed (after C s front) stop ≡ u

abbrev FirstIs : {S X : Type 0} → Cutter S X → S → List ℕ → Cut S X → Type 0
FirstIs C s bs (dry_at u) = (run C s bs ≡ []) × (after C s bs ≡ u)
FirstIs C s bs (cut_off x u rest) = FirstAt C s bs x u rest

first_later : {S X : Type 0} (C : Cutter S X) (s : S) (b : ℕ) (bs : List ℕ) (c : Cut S X) → C.gives s b ≡ [] → FirstIs C (C.feed s b) bs c → FirstIs C s (b ∷ bs) c
first_later C s b bs (dry_at u) none f = (rw none f.0, f.1)
first_later C s b bs (cut_off x u rest) none f = record {
  front = b ∷ f.front;
  stop = f.stop;
  others = f.others;
  split = ap (λ (z : List ℕ). b ∷ z) f.split;
  none_before = rw none f.none_before;
  gave = f.gave;
  then_held = f.then_held;
}

first_is : {S X : Type 0} (C : Cutter S X) (s : S) (bs : List ℕ) → FirstIs C s bs (first_cut C s bs)
first_is C s [] = (refl, refl)
first_is {S} {X} C s (b ∷ bs) = go (C.gives s b) refl (first_is C (C.feed s b) bs)
  where
    go : (xs : List X) → C.gives s b ≡ xs → FirstIs C (C.feed s b) bs (first_cut C (C.feed s b) bs)
        → FirstIs C s (b ∷ bs) (found (C.gives s b) (C.feed s b) bs (first_cut C (C.feed s b) bs))
    go [] e f = rw e (first_later C s b bs (first_cut C (C.feed s b) bs) e f)
    go (x ∷ xs) e f = rw e (record { front = []; stop = b; others = xs; split = refl; none_before = refl; gave = e; then_held = refl })

pub first_dry : {S X : Type 0} (C : Cutter S X) (s u : S) (bs : List ℕ) → first_cut C s bs ≡ dry_at u → (run C s bs ≡ []) × (after C s bs ≡ u)
first_dry {S} {X} C s u bs e = subst (FirstIs C s bs) e (first_is C s bs)

pub first_at : {S X : Type 0} (C : Cutter S X) (s : S) (bs : List ℕ) (x : X) (u : S) (rest : List ℕ) → first_cut C s bs ≡ cut_off x u rest → FirstAt C s bs x u rest
first_at C s bs x u rest e = subst (FirstIs C s bs) e (first_is C s bs)

-- two ways to cut, of which the second holds and gives a view of what the first does
module _ {S X T Y : Type 0} (C : Cutter S X) (D : Cutter T Y) (f : S → T) (g : X → Y)
    (feeds : (s : S) (b : ℕ) → D.feed (f s) b ≡ f (C.feed s b)) (gives : (s : S) (b : ℕ) → D.gives (f s) b ≡ map g (C.gives s b)) where
  pub after_view : (s : S) (bs : List ℕ) → after D (f s) bs ≡ f (after C s bs)
  after_view s [] = refl
  after_view s (b ∷ bs) = rw (feeds s b) (after_view (C.feed s b) bs)

  pub run_view : (s : S) (bs : List ℕ) → run D (f s) bs ≡ map g (run C s bs)
  run_view s [] = refl
  run_view s (b ∷ bs) = rw (gives s b, feeds s b, run_view (C.feed s b) bs) (sym (map-append g (C.gives s b) (run C (C.feed s b) bs)))

-- ---- of lines
pub left_append : (u xs ys : List ℕ) → left_from u (xs ++ ys) ≡ left_from (left_from u xs) ys
left_append u xs ys = after_append by_lines u xs ys

pub lines_append : (u xs ys : List ℕ) → lines_from u (xs ++ ys) ≡ lines_from u xs ++ lines_from (left_from u xs) ys
lines_append u xs ys = run_append by_lines u xs ys

pub lines_end : (u : List ℕ) (e : ℕ) → is_end e ≡ true → 0 < length u → lines_from u (e ∷ []) ≡ u ∷ []
lines_end [] e is l = absurd (omega arith)
lines_end (x ∷ u) e is l = rw is

pub left_end : (u : List ℕ) (e : ℕ) → is_end e ≡ true → left_from u (e ∷ []) ≡ []
left_end u e is = rw is

-- ---- of what is held of a line
-- a line as it is held
abbrev pub squeeze : ℕ → List ℕ → Part
squeeze most u = record { kept = take most u; over = ltb most (length u) }

same_part : {k l : List ℕ} {o q : Bool} → k ≡ l → o ≡ q → ◌≡◌ {A = Part} (record { kept = k; over = o }) (record { kept = l; over = q })
same_part p q i = record { kept = p i; over = q i }

squeeze_longer : (most : ℕ) (u : List ℕ) (b : ℕ) → longer most (squeeze most u) b ≡ squeeze most (u ++ (b ∷ []))
squeeze_longer most u b = go (cases_lt (length u) most)
  where
    long : length (u ++ (b ∷ [])) ≡ length u + 1
    long = length_push u b

    go : (length u < most) ⊎ (most ≤ length u) → longer most (squeeze most u) b ≡ squeeze most (u ++ (b ∷ []))
    go (inl l) =
        rw (take_all most u (omega arith), lt-ltb (length u) most l)
        (same_part
        (sym (take_all most (u ++ (b ∷ [])) (rw long (omega arith))))
        (le-ltb most (length u) (omega arith) ∙ sym (le-ltb most (length (u ++ (b ∷ []))) (rw long (omega arith)))))
    go (inr l) =
        rw (length-take-le most u l, le-ltb most most (omega arith))
        (same_part (sym (take-append-le most u (b ∷ []) l)) (sym (lt-ltb most (length (u ++ (b ∷ []))) (rw long (omega arith)))))

unless_squeezed : (u : List ℕ) → unless_bare (squeeze 1024 u) (take 1024 u) ≡ map (squeeze 1024) (unless_empty u)
unless_squeezed [] = refl
unless_squeezed (b ∷ u) = refl

squeeze_feeds : (u : List ℕ) (b : ℕ) → by_parts.feed (squeeze 1024 u) b ≡ squeeze 1024 (by_lines.feed u b)
squeeze_feeds u b =
    elim (is_end b) as (λ v. cond v bare (longer 1024 (squeeze 1024 u) b) ≡ squeeze 1024 (cond v [] (u ++ (b ∷ []))))
    [ true ↦ refl | false ↦ squeeze_longer 1024 u b ]

squeeze_gives : (u : List ℕ) (b : ℕ) → by_parts.gives (squeeze 1024 u) b ≡ map (squeeze 1024) (by_lines.gives u b)
squeeze_gives u b =
    elim (is_end b) as (λ v. cond v (unless_bare (squeeze 1024 u) (take 1024 u)) [] ≡ map (squeeze 1024) (cond v (unless_empty u) []))
    [ true ↦ unless_squeezed u | false ↦ refl ]

pub after_squeezed : (u bs : List ℕ) → after by_parts (squeeze 1024 u) bs ≡ squeeze 1024 (left_from u bs)
after_squeezed u bs = after_view by_lines by_parts (squeeze 1024) (squeeze 1024) squeeze_feeds squeeze_gives u bs

map_nil : {X Y : Type 0} (f : X → Y) (xs : List X) → map f xs ≡ [] → xs ≡ []
map_nil f [] e = refl
map_nil f (x ∷ xs) e = let z : ◌≡◌ {A = ℕ} 0 1 = cc in absurd (omega arith)

pub none_squeezed : (u bs : List ℕ) → run by_parts (squeeze 1024 u) bs ≡ [] → lines_from u bs ≡ []
none_squeezed u bs e = map_nil (squeeze 1024) (lines_from u bs) (sym (run_view by_lines by_parts (squeeze 1024) (squeeze 1024) squeeze_feeds squeeze_gives u bs) ∙ e)

-- a part that a byte gives was finished by it, whole and not empty
pub parts_gave : (p : Part) (b : ℕ) (x : Part) (xs : List Part) → by_parts.gives p b ≡ x ∷ xs → (is_end b ≡ true) × (p ≡ x) × (0 < length p.kept)
parts_gave p b x xs e = go (is_end b) refl
  where
    some : (l : List ℕ) → unless_bare p l ≡ x ∷ xs → (p ≡ x) × (0 < length l)
    some [] f = let z : ◌≡◌ {A = ℕ} 0 1 = cc in absurd (omega arith)
    some (y ∷ l) f = (cc, omega arith)

    go : (v : Bool) → is_end b ≡ v → (is_end b ≡ true) × (p ≡ x) × (0 < length p.kept)
    go true q = let s = some p.kept (rw q at e) in (q, s.0, s.1)
    go false q = let f : [] ≡ x ∷ xs = rw q at e in let z : ◌≡◌ {A = ℕ} 0 1 = cc in absurd (omega arith)
