-- Whole answers, as the rules describe them, against the link's steps from line to line.
use Rattle.std.proofs.Common.{◌≡◌, ℕ, zero, suc, ◌<◌, Bool, true, ◌⊎◌, List, [], ◌∷◌, ◌++◌, length, Some, refl, inl, inr, arith}
use Rattle.std.proofs.lemmas.Bool.{cases_eq, eq-eqb, ne_eqb}
use Rattle.line.specs.Lines.{Message, meant}
use Rattle.life.specs.Codec.{Codec}
use Rattle.life.specs.Kept.{NoLonger}
use Rattle.life.specs.Answers.{Results, no_more, one_more, WholeAnswer, single, other_status, listing, Place, start, within, Step, final, onward, next}

pub data Whole (K : Codec) (b : Bool) : Place → List (List ℕ) → Type 0 where
  at_last : {p : Place} (l : List ℕ) (m : Message) → K.as_answer l ≡ meant m → next K b p m ≡ final → Whole K b p (l ∷ [])
  and_more : {p : Place} {ls : List (List ℕ)} (l : List ℕ) (m : Message) (q : Place) → K.as_answer l ≡ meant m → next K b p m ≡ onward q → Whole K b q ls → Whole K b p (l ∷ ls)

-- the first line of what is left of an answer: it is the final one, or leads to another place
abbrev pub Comes : Codec → Bool → Place → Message → List (List ℕ) → Type 0
Comes K b p m rest = ((next K b p m ≡ final) × (rest ≡ [])) ⊎ ((q : Place) × (next K b p m ≡ onward q) × Whole K b q rest)

module _ (K : Codec) where
  pub comes : {b : Bool} {p : Place} {l : List ℕ} {rest : List (List ℕ)} → Whole K b p (l ∷ rest) → (m : Message) → K.as_answer l ≡ meant m → Comes K b p m rest
  comes (at_last l x e f) m g = let s : x ≡ m = cc in inl (rw s at f, refl)
  comes (and_more l x q e f w) m g = let s : x ≡ m = cc in inr (q, rw s at f, w)

  pub whole_some : {b : Bool} {p : Place} {ls : List (List ℕ)} → Whole K b p ls → 0 < length ls
  whole_some (at_last l m e f) = omega arith
  whole_some (and_more l m q e f w) = omega arith

  pub never_both : (x : Step) (q : Place) → x ≡ final → x ≡ onward q → ⊥
  never_both x q e f = let z : ◌≡◌ {A = ℕ} 0 1 = cc in omega arith

  pub no_longer : {b : Bool} {p : Place} {ls : List (List ℕ)} → Whole K b p ls → (l : List ℕ) (r : List (List ℕ)) → Whole K b p (ls ++ (l ∷ r)) → ⊥
  no_longer {b} {p} (at_last l x e f) k r w = go (comes w x e)
    where
      go : Comes K b p x (k ∷ r) → ⊥
      go (inl c) = let d = c.1 in let z : ◌≡◌ {A = ℕ} 0 1 = cc in omega arith
      go (inr c) = never_both _ c.0 f c.1
  no_longer {b} {p} (and_more {ls = ls} l x q e f v) k r w = go (no_longer v k r) (comes w x e)
    where
      go : (Whole K b q (ls ++ (k ∷ r)) → ⊥) → Comes K b p x (ls ++ (k ∷ r)) → ⊥
      go ih (inl c) = never_both _ q c.0 f
      go ih (inr c) = let g = c.1 in let s : c.0 ≡ q = cc in ih (rw s at c.2)

  results_end : (n : ℕ) {i : ℕ} {ls : List (List ℕ)} → Results K n i ls → i ≡ n → ls ≡ []
  results_end n no_more e = refl
  results_end n (one_more l m lt a b c r) e = absurd (omega arith)

  results_whole : (n : ℕ) {i : ℕ} {ls : List (List ℕ)} → Results K n i ls → i < n → Whole K true (within i n) ls
  results_whole n no_more lt = absurd (omega arith)
  results_whole n (one_more {i} {ls} l m lt a b c r) lt2 = go (results_whole n r) (cases_eq (suc i) n)
    where
      go : (suc i < n → Whole K true (within (suc i) n) ls) → (suc i ≡ n) ⊎ (suc i ≡ n → ⊥) → Whole K true (within i n) (l ∷ ls)
      go ih (inl e) = rw (results_end n r e) (at_last {p = within i n} l m a (rw (b, c, eq-eqb (suc i) (suc i) refl, eq-eqb (suc i) n e)))
      go ih (inr ne) = and_more {p = within i n} l m (within (suc i) n) a (rw (b, c, eq-eqb (suc i) (suc i) refl, ne_eqb (suc i) n ne)) (ih (omega arith))

  -- each whole answer is one that the steps lead through from its start
  pub whole_from : {c : Message} {ls : List (List ℕ)} → WholeAnswer K c ls → Whole K (K.is_browse c) start ls
  whole_from (single l m br e) = rw br (at_last {p = start} l m e refl)
  whole_from (other_status l m br e bad) = rw br (at_last {p = start} l m e (rw bad))
  whole_from {c} (listing {ls} l m n br e ok ov r) = rw br (go n ov r)
    where
      go : (n : ℕ) → K.overview m ≡ Some n → Results K n 0 ls → Whole K true start (l ∷ ls)
      go zero ov r = rw (results_end 0 r refl) (at_last {p = start} l m e (rw (ok, ov)))
      go (suc n) ov r = and_more {p = start} l m (within 0 (suc n)) e (rw (ok, ov)) (results_whole (suc n) r (omega arith))

pub ends_once : NoLonger
ends_once K c ls l rest w v = no_longer K (whole_from K w) l rest (whole_from K v)
