-- From how one number stands to the ten, and to the relations of a link's whole life.
use Rattle.std.proofs.Common.{◌≡◌, ℕ, zero, suc, ◌+◌, ◌-◌, ◌%◌, ◌<◌, ◌≤◌, Bool, true, false, cond, ltb, ◌⊎◌, List, [], ◌∷◌, length, get_or, set, map, replicate, Some, None, Option, sym, refl, ap, ◌∙◌, subst, inl, inr, add-one, arith, get_or-set_other, get_or-set_same}
use Rattle.std.specs.List.{find, range_with_len}
use Rattle.std.specs.Option.{option_map}
use Rattle.std.proofs.lemmas.List.{get_or-replicate, set-get_or, get_or_default}
use Rattle.std.proofs.lemmas.Bool.{cases_eq, cases_lt, lt-ltb, le-ltb}
use Rattle.line.specs.Lines.{Message, meant}
use Rattle.life.specs.Answers.{Step, not_next, final, onward, next}
use Rattle.life.specs.Calls.{Kind, Outcome, foreign}
use Rattle.life.specs.Link.{Pending, Slot, is_free, is_open, is_answered, is_lost, is_given_up, Same, Put, FirstFree, after_reset, one_if_open, count_open, when_open, when_given_up, Settles, was_answered, was_lost, was_open, not_held, Told, told_unknown, told_elsewhere, told_misplaced, told_more, told_last, told_late, told_late_last}
use Rattle.numbers.specs.Ours.{ours}
use Rattle.numbers.specs.Ten.{NextFree}
use Rattle.numbers.specs.declared.slot.Slot.{Slot as Held}
use Rattle.numbers.specs.declared.slot.Outcome.{Outcome as Answer}
use Rattle.numbers.specs.declared.slot.Outcome.TheVariants.{Answered, GivenUp, Lost, Foreign}
use Rattle.numbers.specs.declared.ten.Numbers.{Numbers}
use Rattle.numbers.specs.declared.slot.Slot.TheVariants.{Free}
use Rattle.numbers.specs.Slots.{slot_of, IfForeign, is_free_slot, settles, tells, tells_open, tells_late}

-- a number that stands as before
put_same : (b a : ℕ → Slot) (n : ℕ) → Put b n (b n) a → Same b a
put_same b a n put i = go (cases_eq i n)
  where
    go : (i ≡ n) ⊎ (i ≡ n → ⊥) → a i ≡ b i
    go (inl e) = rw (e, put.here)
    go (inr ne) = put.others i ne

pub settles_by : (b a : ℕ → Slot) (n : ℕ) → Put b n (settles (b n)).1 a → Settles b n a (settles (b n)).0
settles_by b a n put = go (b n) refl put
  where
    go : (x : Slot) → b n ≡ x → Put b n (settles x).1 a → Settles b n a (settles x).0
    go is_free e p = not_held (λ h. rw e at h) (put_same b a n (rw e p))
    go (is_open q) e p = was_open q e p
    go is_answered e p = was_answered e p
    go is_lost e p = was_lost e p
    go (is_given_up q) e p = not_held (λ h. rw e at h) (put_same b a n (rw e p))

module _ (b a : ℕ → Slot) (n : ℕ) (m : Message) (mark : m.mark ≡ 48 + n) (small : n < 10) where
  by_open : (q : Pending) → b n ≡ is_open q → (s : Bool) → ours.same_address m.address q.address ≡ s → (x : Step) → next ours q.browse q.place m ≡ x
      → Put b n (tells_open n q (cond s (Some x) None)).1 a → Told ours b a (meant m) (tells_open n q (cond s (Some x) None)).0
  by_open q e false f x g p = told_elsewhere m n q mark small (rw e (when_open q)) f (put_same b a n (rw e p))
  by_open q e true f not_next g p = told_misplaced m n q mark small (rw e (when_open q)) f g (put_same b a n (rw e p))
  by_open q e true f final g p = told_last m n q mark small e f g p
  by_open q e true f (onward r) g p = told_more m n q r mark small e f g p

  by_late : (q : Pending) → b n ≡ is_given_up q → (s : Bool) → ours.same_address m.address q.address ≡ s → (x : Step) → next ours q.browse q.place m ≡ x
      → Put b n (tells_late n q (cond s (Some x) None)).1 a → Told ours b a (meant m) (tells_late n q (cond s (Some x) None)).0
  by_late q e false f x g p = told_elsewhere m n q mark small (rw e (when_given_up q)) f (put_same b a n (rw e p))
  by_late q e true f not_next g p = told_misplaced m n q mark small (rw e (when_given_up q)) f g (put_same b a n (rw e p))
  by_late q e true f final g p = told_late_last m n q mark small e f g p
  by_late q e true f (onward r) g p = told_late m n q r mark small e f g p

  pub told_by : Put b n (tells n (b n) m).1 a → Told ours b a (meant m) (tells n (b n) m).0
  told_by put = go (b n) refl put
    where
      go : (x : Slot) → b n ≡ x → Put b n (tells n x m).1 a → Told ours b a (meant m) (tells n x m).0
      go is_free e p = told_unknown m n mark small (rw e tt) (put_same b a n (rw e p))
      go (is_open q) e p = by_open q e (ours.same_address m.address q.address) refl (next ours q.browse q.place m) refl p
      go is_answered e p = told_unknown m n mark small (rw e tt) (put_same b a n (rw e p))
      go is_lost e p = told_unknown m n mark small (rw e tt) (put_same b a n (rw e p))
      go (is_given_up q) e p = by_late q e (ours.same_address m.address q.address) refl (next ours q.browse q.place m) refl p

-- ---- the ten as a list
abbrev pub standing : List Held → ℕ → Slot
standing l n = cond (ltb n 10) (slot_of (get_or l n Free)) is_free

inside : (l : List Held) (n : ℕ) → n < 10 → standing l n ≡ slot_of (get_or l n Free)
inside l n h = rw (lt-ltb n 10 h)

pub past_free : (l : List Held) (n : ℕ) → 10 ≤ n → standing l n ≡ is_free
past_free l n h = rw (le-ltb n 10 h)

-- a number beyond 9 is not held, and settling it changes nothing
pub past_kept : (l : List Held) (n : ℕ) → 10 ≤ n → Settles (standing l) n (standing l) foreign
past_kept l n h = not_held (λ held. rw (past_free l n h) at held) (λ i. refl)

pub all_free : (n : ℕ) → standing (Free ∷ Free ∷ Free ∷ Free ∷ Free ∷ Free ∷ Free ∷ Free ∷ Free ∷ Free ∷ []) n ≡ is_free
all_free n = go (cases_lt n 10)
  where
    go : (n < 10) ⊎ (10 ≤ n) → standing (replicate 10 Free) n ≡ is_free
    go (inl h) = inside (replicate 10 Free) n h ∙ ap slot_of (get_or-replicate 10 n Free Free h)
    go (inr h) = past_free (replicate 10 Free) n h

pub put_at : (l : List Held) (n k : ℕ) (x : Held) → k ≡ n → k < length l → k < 10 → Put (standing l) n (slot_of x) (standing (set l k x))
put_at l n k x e lt small = rw e (record {
  here = inside (set l n x) n (rw e at small) ∙ ap slot_of (get_or-set_same l n x Free (rw e at lt));
  others = λ i ne. ap (λ (y : Held). cond (ltb i 10) (slot_of y) is_free) (get_or-set_other l n i x Free ne);
})

-- where the element that was read is x
module _ (l : List Held) (n k : ℕ) (x : Held) (e : k ≡ n) (lt : k < length l) (few : k < 10) (read : x ≡ get_or l k x) where
  read_is : slot_of x ≡ standing l n
  read_is = ap slot_of (read ∙ get_or_default l k x Free lt) ∙ sym (inside l k few) ∙ ap (standing l) e

  pub settled_at : (y : Held) (o : Outcome) → (o, slot_of y) ≡ settles (slot_of x) → Settles (standing l) n (standing (set l k y)) o
  settled_at y o is =
      let whole : (o, slot_of y) ≡ settles (standing l n) = is ∙ ap settles read_is in
      let put : Put (standing l) n (settles (standing l n)).1 (standing (set l k y)) = subst (λ (z : Slot). Put (standing l) n z (standing (set l k y))) (ap (λ (p : Outcome × Slot). p.1) whole) (put_at l n k y e lt few) in
      subst (Settles (standing l) n (standing (set l k y))) (sym (ap (λ (p : Outcome × Slot). p.0) whole)) (settles_by (standing l) (standing (set l k y)) n put)

  module _ (m : Message) (y : Held) (t : Kind) (is : (t, slot_of y) ≡ tells n (slot_of x) m) where
    whole : (t, slot_of y) ≡ tells n (standing l n) m
    whole = is ∙ ap (λ (z : Slot). tells n z m) read_is

    pub told_put : Put (standing l) n (tells n (standing l n) m).1 (standing (set l k y))
    told_put = subst (λ (z : Slot). Put (standing l) n z (standing (set l k y))) (ap (λ (p : Kind × Slot). p.1) whole) (put_at l n k y e lt few)

    pub told_kind : t ≡ (tells n (standing l n) m).0
    told_kind = ap (λ (p : Kind × Slot). p.0) whole

    pub told_at : m.mark ≡ 48 + n → n < 10 → Told ours (standing l) (standing (set l k y)) (meant m) t
    told_at mark small = subst (Told ours (standing l) (standing (set l k y)) (meant m)) (sym told_kind) (told_by (standing l) (standing (set l k y)) n m mark small told_put)

-- ---- the search for a free number
is_free_is : (x : Slot) → true ≡ is_free_slot x → x ≡ is_free
is_free_is is_free e = refl
is_free_is (is_open p) e = let z : ◌≡◌ {A = ℕ} 0 1 = cc in absurd (omega arith)
is_free_is is_answered e = let z : ◌≡◌ {A = ℕ} 0 1 = cc in absurd (omega arith)
is_free_is is_lost e = let z : ◌≡◌ {A = ℕ} 0 1 = cc in absurd (omega arith)
is_free_is (is_given_up p) e = let z : ◌≡◌ {A = ℕ} 0 1 = cc in absurd (omega arith)

-- the first i numbers after r are not free
abbrev pub NoneFree : (ℕ → Slot) → ℕ → ℕ → Type 0
NoneFree b r i = (j : ℕ) → j < i → b ((r + 1 + j) % 10) ≡ is_free → ⊥

-- the number i places after the one that follows r
abbrev pub place : ℕ → ℕ → ℕ
place r i = (r % 10 + 1 + i) % 10

abbrev pub free_in : List Held → ℕ → Bool
free_in l n = is_free_slot (slot_of (get_or l n Free))

-- what a search of the first i numbers after r finds
abbrev Found : (ℕ → Slot) → ℕ → ℕ → Option ℕ → Type 0
Found b r i None = NoneFree b r i
Found b r i (Some n) = (n < 10) × FirstFree b r n

module _ (l : List Held) (r i : ℕ) (none : NoneFree (standing l) r i) where
  same : place r i ≡ (r + 1 + i) % 10
  same = omega arith

  here : slot_of (get_or l (place r i) Free) ≡ standing l ((r + 1 + i) % 10)
  here = let small : place r i < 10 = omega arith in sym (inside l (place r i) small) ∙ ap (standing l) same

  first_found : free_in l (place r i) ≡ true → (place r i < 10) × FirstFree (standing l) r (place r i)
  first_found free = (omega arith, record { free = ap (standing l) same ∙ sym here ∙ is_free_is _ (sym free); far = i; there = same; first = none })

  one_more_not_free : free_in l (place r i) ≡ false → NoneFree (standing l) r (i + 1)
  one_more_not_free not_free j lt is = go (cases_eq j i)
    where
      go : (j ≡ i) ⊎ (j ≡ i → ⊥) → ⊥
      go (inl q) = let x : false ≡ true = sym not_free ∙ ap is_free_slot (here ∙ ap (λ (k : ℕ). standing l ((r + 1 + k) % 10)) (sym q) ∙ is) in cc
      go (inr ne) = none j (omega arith) is

found_is : (b : ℕ → Slot) (r i n : ℕ) (o : Option ℕ) → option_map (λ (k : ℕ). k) o ≡ Some n → (n < 10) × FirstFree b r n → Found b r i o
found_is b r i n None e f = let z : ◌≡◌ {A = ℕ} 0 1 = cc in absurd (omega arith)
found_is b r i n (Some k) e f = let same : k ≡ n = cc in rw same f

-- the numbers from the place i on are searched, and none before it is free
searched : (l : List Held) (r i n : ℕ) (o : Option ℕ) → NoneFree (standing l) r i → option_map (λ (k : ℕ). k) o ≡ find (free_in l) (map (place r) (range_with_len i n)) → Found (standing l) r (i + n) o
searched l r i zero None none e = λ j lt. none j (omega arith)
searched l r i zero (Some k) none e = let z : ◌≡◌ {A = ℕ} 0 1 = cc in absurd (omega arith)
searched l r i (suc n) o none e = go (free_in l (place r i)) refl (λ more f. searched l r (i + 1) n o more f)
  where
    go : (v : Bool) → free_in l (place r i) ≡ v
        → (NoneFree (standing l) r (i + 1) → option_map (λ (k : ℕ). k) o ≡ find (free_in l) (map (place r) (range_with_len (i + 1) n)) → Found (standing l) r (i + 1 + n) o)
        → Found (standing l) r (i + suc n) o
    go true q rest = found_is (standing l) r (i + suc n) (place r i) o (rw q at e) (first_found l r i none q)
    go false q rest = subst (λ (k : ℕ). Found (standing l) r k o) (omega arith) (rest (one_more_not_free l r i none q) (rw q at e))

-- after ten numbers in a row none is left
none_left : (b : ℕ → Slot) (r i : ℕ) → 10 ≤ i → NoneFree b r i → (k : ℕ) → k < 10 → b k ≡ is_free → ⊥
none_left b r i most none k small is = go (cases_lt k ((r + 1) % 10))
  where
    at : (j : ℕ) → j < 10 → (r + 1 + j) % 10 ≡ k → ⊥
    at j lt e = none j (omega arith) (ap b e ∙ is)

    go : (k < (r + 1) % 10) ⊎ ((r + 1) % 10 ≤ k) → ⊥
    go (inl l) = at (k + 10 - (r + 1) % 10) (omega arith) (omega arith)
    go (inr l) = at (k - (r + 1) % 10) (omega arith) (omega arith)

pub next_found : (l : List Held) (r : ℕ) (o : Option ℕ) → option_map (λ (k : ℕ). k) o ≡ find (free_in l) (map (place r) (range_with_len 0 10)) → NextFree (standing l) r o
next_found l r o e = go o (searched l r 0 10 o (λ j lt. absurd (omega arith)) e)
  where
    go : (x : Option ℕ) → Found (standing l) r 10 x → NextFree (standing l) r x
    go None none = none_left (standing l) r 10 (omega arith) none
    go (Some n) f = f

-- ---- the reset of all ten, up to the number i
pub record ResetUpTo (b : ℕ → Slot) (i : ℕ) (count : ℕ) (a : ℕ → Slot) : Type 0 where
  pub counted : count ≡ count_open i b
  pub few : count ≤ i
  pub done : (n : ℕ) → n < i → a n ≡ after_reset (b n)
  pub left : (n : ℕ) → i ≤ n → a n ≡ b n

pub reset_none : (b : ℕ → Slot) → ResetUpTo b 0 0 b
reset_none b = record { counted = refl; few = omega arith; done = λ n lt. absurd (omega arith); left = λ n le. refl }

at_most_one : (x : Slot) → one_if_open x ≤ 1
at_most_one is_free = omega arith
at_most_one (is_open p) = omega arith
at_most_one is_answered = omega arith
at_most_one is_lost = omega arith
at_most_one (is_given_up p) = omega arith

pub reset_more : (b : ℕ → Slot) (l : List Held) (i c o : ℕ) (y : Held) → i < length l → i < 10 → ResetUpTo b i c (standing l) → o ≡ one_if_open (slot_of (get_or l i Free)) → slot_of y ≡ after_reset (slot_of (get_or l i Free))
    → ResetUpTo b (i + 1) (c + o) (standing (set l i y))
reset_more b l i c o y lt small r one is = record {
  counted = rw (one, was, r.counted, add-one i);
  few = let h = r.few in let k = at_most_one (slot_of (get_or l i Free)) in omega arith;
  done = λ n h. below n h (cases_eq n i);
  left = λ n h. put.others n (λ e. omega arith) ∙ r.left n (omega arith);
}
  where
    put : Put (standing l) i (slot_of y) (standing (set l i y))
    put = put_at l i i y refl lt small

    was : slot_of (get_or l i Free) ≡ b i
    was = sym (inside l i small) ∙ r.left i (omega arith)

    below : (n : ℕ) → n < i + 1 → (n ≡ i) ⊎ (n ≡ i → ⊥) → standing (set l i y) n ≡ after_reset (b n)
    below n h (inl e) = rw e (put.here ∙ is ∙ ap after_reset was)
    below n h (inr ne) = put.others n ne ∙ r.done n (omega arith)

pub reset_ended : (k l : List Held) (i c : ℕ) → i ≤ 10 → 10 ≤ i → ResetUpTo (standing k) i c (standing l) → (c ≡ count_open 10 (standing k)) × ((n : ℕ) → standing l n ≡ after_reset (standing k n))
reset_ended k l i c le ge r = let ten : i ≡ 10 = omega arith in (r.counted ∙ ap (λ (x : ℕ). count_open x (standing k)) ten, λ n. go n (cases_lt n 10))
  where
    go : (n : ℕ) → (n < 10) ⊎ (10 ≤ n) → standing l n ≡ after_reset (standing k n)
    go n (inl lt) = r.done n (omega arith)
    go n (inr h) = past_free l n h ∙ ap after_reset (sym (past_free k n h))

-- what was read, written again
written_again : (l : List Held) (k : ℕ) (x y : Held) → x ≡ get_or l k x → y ≡ x → set l k y ≡ l
written_again l k x y read e = rw (e, read) (set-get_or l k x)

pub foreign_kept : (o : Answer) (l : List Held) (k : ℕ) (x y : Held) (recent : ℕ) → x ≡ get_or l k x → IfForeign o (y ≡ x)
    → IfForeign o (◌≡◌ {A = Numbers} (record { slots = set l k y; recent = recent }) (record { slots = l; recent = recent }))
foreign_kept Answered l k x y recent read e = tt
foreign_kept GivenUp l k x y recent read e = tt
foreign_kept Lost l k x y recent read e = tt
foreign_kept Foreign l k x y recent read e = ap (λ (z : List Held). record { slots = z; recent = recent }) (written_again l k x y read e)
