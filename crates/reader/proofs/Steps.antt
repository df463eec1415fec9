-- The steps of taking bytes one by one, as the code makes them.
use Rattle.std.proofs.Common.{◌≡◌, ℕ, ◌+◌, ◌<◌, ◌≤◌, Bool, true, false, List, [], ◌∷◌, length, get_or, take, drop, set, sym, refl, ap, ◌∙◌, arith}
use Rattle.std.proofs.lemmas.List.{take_more_set, length-take-le, length-append, length-take, length-drop}
use Rattle.std.proofs.lemmas.Bool.{lt-ltb, le-ltb}
use Rattle.port.specs.Port.{Meaning, Fetched}
use Rattle.reader.specs.Stream.{dry_at, cut_off, first_cut}
use Rattle.reader.specs.Cutting.{Part, bare, longer, unless_bare, by_parts, is_end}

-- ---- one byte more
pub grows : (bs : List ℕ) (n b : ℕ) (o : Bool) → n < 1024 → n < length bs
    → ◌≡◌ {A = Part} (record { kept = take (n + 1) (set bs n b); over = o }) (longer 1024 (record { kept = take n bs; over = o }) b)
grows bs n b o few lt = rw (length-take-le n bs (omega arith), lt-ltb n 1024 few, take_more_set bs n b lt)

pub spills : (bs : List ℕ) (n b : ℕ) (o : Bool) → n ≤ 1024 → 1024 ≤ n → length bs ≡ 1024
    → ◌≡◌ {A = Part} (record { kept = take n bs; over = true }) (longer 1024 (record { kept = take n bs; over = o }) b)
spills bs n b o most full all = rw (length-take-le n bs (omega arith), le-ltb n 1024 full)

-- ---- what a byte does to the first cut
pub step_line : (p : Part) (b : ℕ) → is_end b ≡ true → 0 < length p.kept → (rest : List ℕ) → first_cut by_parts p (b ∷ rest) ≡ cut_off p bare rest
step_line p b is some rest = rw (is, there p.kept some)
  where
    there : (l : List ℕ) → 0 < length l → unless_bare p l ≡ p ∷ []
    there [] s = absurd (omega arith)
    there (x ∷ l) s = refl

pub step_empty : (p : Part) (b : ℕ) → is_end b ≡ true → length p.kept ≡ 0 → (rest : List ℕ) → first_cut by_parts p (b ∷ rest) ≡ first_cut by_parts bare rest
step_empty p b is none rest = rw (is, nothing p.kept none)
  where
    nothing : (l : List ℕ) → length l ≡ 0 → unless_bare p l ≡ []
    nothing [] s = refl
    nothing (x ∷ l) s = absurd (omega arith)

pub step_more : (p : Part) (b : ℕ) → is_end b ≡ false → (rest : List ℕ) → first_cut by_parts p (b ∷ rest) ≡ first_cut by_parts (longer 1024 p b) rest
step_more p b is rest = rw is

-- ---- what a read of one byte brings
pub fetched_one : (a z : Meaning) (old new : List ℕ) (k w : ℕ) → Fetched a z old new k w → length old ≡ 1 → (k ≡ 0 → ⊥)
    → (a.incoming ≡ get_or new 0 0 ∷ z.incoming) × (length new ≡ 1)
fetched_one a z old new k w f one some = (head a.incoming refl, count)
  where
    count : length new ≡ 1
    count = rw (f.buffer, length-append (take k a.incoming) (drop k old), length-take k a.incoming, length-drop k old) (let e = f.count in omega arith)

    head : (i : List ℕ) → a.incoming ≡ i → a.incoming ≡ get_or new 0 0 ∷ z.incoming
    head [] e = absurd (some (let c = f.count in let l = ap length e in omega arith))
    head (b ∷ i) e =
        let is : k ≡ 1 = let c = f.count in let l = ap length e in omega arith in
        rw (f.buffer, f.incoming, e, is)

pub nothing_left : (p : Part) (i : List ℕ) → length i ≡ 0 → (first_cut by_parts p i ≡ dry_at p) × (i ≡ [])
nothing_left p [] l = (refl, refl)
nothing_left p (x ∷ i) l = absurd (omega arith)

-- the byte that p took to become q was the last one that waited
pub last_byte : (a z : Meaning) (old new : List ℕ) (k w : ℕ) (p q : Part) → Fetched a z old new k w → length old ≡ 1 → (k ≡ 0 → ⊥) → w ≡ 0
    → ((rest : List ℕ) → first_cut by_parts p (get_or new 0 0 ∷ rest) ≡ first_cut by_parts q rest)
    → (first_cut by_parts p a.incoming ≡ dry_at q) × (z.incoming ≡ [])
last_byte a z old new k w p q f one some none took =
    let d = nothing_left q z.incoming (sym f.waits ∙ none) in
    (rw (fetched_one a z old new k w f one some).0 (took z.incoming ∙ d.0), d.1)
