-- The laws of the codec: what reads as a message is plain, and the canonical line of a command reads back.
use Rattle.std.proofs.Common.{◌≡◌, ℕ, ◌<◌, ◌≤◌, Bool, true, false, cond, ltb, leb, ◌⊎◌, List, [], ◌∷◌, length, take, Some, None, Option, sym, refl, ap, ◌∙◌, subst, inl, inr, arith}
use Rattle.std.specs.List.{AllByRecursion}
use Rattle.std.proofs.lemmas.Bool.{cases_lt, le-leb, lt-leb, leb-true, ltb-true, ne_eqb}
use Rattle.escape.specs.Tokens.{tokens, first_broken, further, parts}
use Rattle.line.specs.Forms.{Side, command, answer, visible, every}
use Rattle.line.specs.Lines.{Message, Read, meant, faulty, first_invisible, unless_at, or_fault, parted, check_place, parts_read, reading}
use Rattle.reader.specs.Cutting.{is_end}
use Rattle.writer.specs.Canonical.{canonical, sendable}
use Rattle.writer.specs.Laws.{Bytes}
use Rattle.writer.proofs.Backs.{reads_back}
use Rattle.life.specs.Codec.{Plain, Lawful, no_ends}
use Rattle.numbers.specs.Browse.{is_command}
use Rattle.numbers.specs.Ours.{all_bytes, sendable_command, as_answer, ours}

never : {X : Type 0} (n p : ℕ) (m : Message) → faulty n p ≡ meant m → X
never n p m e = let z : ◌≡◌ {A = ℕ} 0 1 = cc in absurd (omega arith)

pub both : (p q : Bool) → cond p q false ≡ true → (p ≡ true) × (q ≡ true)
both true q e = (refl, e)
both false q e = let z : ◌≡◌ {A = ℕ} 0 1 = cc in absurd (omega arith)

-- ---- what reads as a message
not_too_long : (side : Side) (l : List ℕ) (m : Message) → reading side l ≡ meant m → length l ≤ 1024
not_too_long side l m e = go (cases_lt 1024 (length l))
  where
    go : (1024 < length l) ⊎ (length l ≤ 1024) → length l ≤ 1024
    go (inl lt) = never 1 1024 m (rw (lt-leb (length l) 1024 lt) at e)
    go (inr le) = le

-- the tests behind that of the length, by what they find
found : Side → List ℕ → Option ℕ → Read
found side l o = unless_at o 2 (unless_at (first_broken (tokens l)) 3 (or_fault (parted side (parts 47 l)) 4 (length l) (λ p. parts_read side p (take (check_place p) l))))

all_visible : (side : Side) (l : List ℕ) (m : Message) → reading side l ≡ meant m → first_invisible l ≡ None
unfolding found
all_visible side l m e = go (first_invisible l) refl
  where
    short : found side l (first_invisible l) ≡ meant m
    short = rw (le-leb (length l) 1024 (not_too_long side l m e)) at e

    go : (o : Option ℕ) → first_invisible l ≡ o → first_invisible l ≡ None
    go None q = q
    go (Some p) q = never 2 p m (sym (ap (found side l) q) ∙ short)

further_none : (o : Option ℕ) → further 1 o ≡ None → o ≡ None
further_none None e = refl
further_none (Some p) e = let z : ◌≡◌ {A = ℕ} 0 1 = cc in absurd (omega arith)

visible_first : (b : ℕ) (l : List ℕ) → first_invisible (b ∷ l) ≡ None → (visible b ≡ true) × (first_invisible l ≡ None)
visible_first b l e = go (visible b) refl
  where
    by : Bool → Option ℕ
    by v = elim v [ true ↦ further 1 (first_invisible l) | false ↦ Some 0 ]

    now : (v : Bool) → visible b ≡ v → by v ≡ None
    now v q = subst (λ (x : Bool). by x ≡ None) q e

    go : (v : Bool) → visible b ≡ v → (visible b ≡ true) × (first_invisible l ≡ None)
    go true q = (q, further_none (first_invisible l) (now true q))
    go false q = let y = now false q in let z : ◌≡◌ {A = ℕ} 0 1 = cc in absurd (omega arith)

-- a byte that ends a line may not stand in one
no_end : (b : ℕ) → visible b ≡ true → is_end b ≡ false
no_end b e = let h = least in rw (ne_eqb b 13 (λ q. omega arith), ne_eqb b 10 (λ q. omega arith))
  where
    least : 32 ≤ b
    least = leb-true 32 b (both (leb 32 b) (leb b 126) e).0

visible_clean : (l : List ℕ) → first_invisible l ≡ None → no_ends l ≡ true
visible_clean [] e = refl
visible_clean (b ∷ l) e = let v = visible_first b l e in rw (no_end b v.0) (visible_clean l v.1)

some_byte : (side : Side) (l : List ℕ) (m : Message) → reading side l ≡ meant m → 0 < length l
some_byte command [] m e = never 4 0 m e
some_byte answer [] m e = never 4 0 m e
some_byte side (b ∷ l) m e = omega arith

read_plain : (side : Side) (l : List ℕ) (m : Message) → reading side l ≡ meant m → Plain l
read_plain side l m e = record { not_empty = some_byte side l m e; short = not_too_long side l m e; clean = visible_clean l (all_visible side l m e) }

-- ---- what is written for a command
bytes_in : (f : List ℕ) → every (λ b. ltb b 256) f ≡ true → AllByRecursion (λ b. b < 256) f
bytes_in [] e = tt
bytes_in (b ∷ f) e = let p = both (ltb b 256) (every (λ b. ltb b 256) f) e in (ltb-true b 256 p.0, bytes_in f p.1)

bytes_all : (fs : List (List ℕ)) → all_bytes fs ≡ true → Bytes fs
bytes_all [] e = tt
bytes_all (f ∷ fs) e = let p = both (every (λ b. ltb b 256) f) (all_bytes fs) e in (bytes_in f p.0, bytes_all fs p.1)

pub side_is : (s : Side) → is_command s ≡ true → s ≡ command
side_is command e = refl
side_is answer e = let z : ◌≡◌ {A = ℕ} 0 1 = cc in absurd (omega arith)

command_reads : (m : Message) → sendable_command m ≡ true → reading command (canonical m) ≡ meant m
command_reads m e =
    let p = both (is_command m.side) (cond (all_bytes m.fields) (sendable m) false) e in
    let q = both (all_bytes m.fields) (sendable m) p.1 in
    ap (λ (s : Side). reading s (canonical m)) (sym (side_is m.side p.0)) ∙ reads_back m q.1 (bytes_all m.fields q.0)

pub lawful : Lawful ours
unfolding as_answer
lawful = record {
  too_long = λ l lt. rw (lt-leb (length l) 1024 lt);
  answer_plain = read_plain answer;
  canonical_plain = λ m e. read_plain command (canonical m) m (command_reads m e);
  canonical_reads = command_reads;
}
