-- The second promise. For each number, how it stands tells how many tickets out have it, and how many commands given up.
use Rattle.std.proofs.Common.{◌≡◌, ℕ, ◌+◌, ◌<◌, ◌≤◌, Bool, true, false, eqb, ◌⊎◌, List, [], ◌∷◌, ◌++◌, length, sym, refl, ap, ◌∙◌, inl, inr, arith}
use Rattle.std.proofs.lemmas.List.{length_push}
use Rattle.std.proofs.lemmas.Bool.{cases_eq, eq-eqb, ne_eqb, eqb-true}
use Rattle.line.specs.Lines.{Read}
use Rattle.life.specs.Codec.{Codec}
use Rattle.life.specs.Calls.{Kind, Outcome, Call, settled, History, ever, accepted, outcomes}
use Rattle.life.specs.Promises.{remove, times, out, late_after_line, late_after_settle, waiting_late, one_if_own, settled_own, Counted}
use Rattle.life.specs.Link.{Pending, Slot, is_free, is_open, is_answered, is_lost, is_given_up, State, Same, Put, HeldSlot, after_reset, Told, told_fault, told_event, told_notice, told_unknown, told_elsewhere, told_misplaced, told_more, told_last, told_late, told_late_last, Settles, was_answered, was_lost, was_open, not_held, Settled, Does, Leads, making, call, emission, did_refuse, did_clear, did_submit, did_dry, did_hand, did_settle, did_reset, did_arrive, did_depart}

-- the tickets out that have a number, by how it stands; and the commands given up that have it
abbrev pub held_count : Slot → ℕ
held_count is_free = 0
held_count (is_open p) = 1
held_count is_answered = 1
held_count is_lost = 1
held_count (is_given_up p) = 0

abbrev pub late_count : Slot → ℕ
late_count is_free = 0
late_count (is_open p) = 0
late_count is_answered = 0
late_count is_lost = 0
late_count (is_given_up p) = 1

-- ---- counting in lists of numbers
times_same : (n : ℕ) (xs : List ℕ) → times n (n ∷ xs) ≡ times n xs + 1
times_same n xs = rw (eq-eqb n n refl)

times_other : (i n : ℕ) (xs : List ℕ) → (i ≡ n → ⊥) → times i (n ∷ xs) ≡ times i xs
times_other i n xs ne = rw (ne_eqb n i (λ e. ne (sym e)))

remove_same : (n : ℕ) (xs : List ℕ) → 0 < times n xs → times n (remove n xs) + 1 ≡ times n xs
remove_same n [] h = absurd (omega arith)
remove_same n (x ∷ xs) h = go (remove_same n xs) (eqb x n) refl
  where
    go : (0 < times n xs → times n (remove n xs) + 1 ≡ times n xs) → (v : Bool) → eqb x n ≡ v → times n (remove n (x ∷ xs)) + 1 ≡ times n (x ∷ xs)
    go ih true e = rw e
    go ih false e = rw (e, e) (ih (rw e at h))

remove_other : (i n : ℕ) (xs : List ℕ) → (i ≡ n → ⊥) → times i (remove n xs) ≡ times i xs
remove_other i n [] ne = refl
remove_other i n (x ∷ xs) ne = go (remove_other i n xs ne) (eqb x n) refl (eqb x i) refl
  where
    go : times i (remove n xs) ≡ times i xs → (v : Bool) → eqb x n ≡ v → (w : Bool) → eqb x i ≡ w → times i (remove n (x ∷ xs)) ≡ times i (x ∷ xs)
    go ih true e true f = absurd (ne (sym (eqb-true x i f) ∙ eqb-true x n e))
    go ih true e false f = rw (e, f)
    go ih false e true f = rw (e, f) (ap (λ (k : ℕ). k + 1) ih)
    go ih false e false f = rw (e, f) ih

length_remove : (n : ℕ) (xs : List ℕ) → 0 < times n xs → length (remove n xs) + 1 ≡ length xs
length_remove n [] h = absurd (omega arith)
length_remove n (x ∷ xs) h = go (length_remove n xs) (eqb x n) refl
  where
    go : (0 < times n xs → length (remove n xs) + 1 ≡ length xs) → (v : Bool) → eqb x n ≡ v → length (remove n (x ∷ xs)) + 1 ≡ length (x ∷ xs)
    go ih true e = rw e (omega arith)
    go ih false e = rw e (let j = ih (rw e at h) in omega arith)

settled_push : (os : List Outcome) (o : Outcome) → settled_own (os ++ (o ∷ [])) ≡ settled_own os + one_if_own o
settled_push [] o = omega arith
settled_push (x ∷ os) o = let j = settled_push os o in omega arith

-- ---- the invariant
pub record Tallied (given settled_so : ℕ) (outs lates : List ℕ) (b : ℕ → Slot) : Type 0 where
  pub adds : given ≡ settled_so + length outs
  pub held : (n : ℕ) → times n outs ≡ held_count (b n)
  pub kept : (n : ℕ) → times n lates ≡ late_count (b n)

abbrev pub Tally : ℕ → History → State → Type 0
Tally link h s = Tallied (length (ever accepted h)) (settled_own (ever outcomes h)) (out link h) (waiting_late h) s.slots

-- counts by how the numbers stand, where one number has changed
put_count : (f : Slot → ℕ) (b a : ℕ → Slot) (n : ℕ) (x : Slot) (xs ys : List ℕ) → Put b n x a → ((i : ℕ) → times i xs ≡ f (b i))
    → times n ys ≡ f x → ((i : ℕ) → (i ≡ n → ⊥) → times i ys ≡ times i xs) → (i : ℕ) → times i ys ≡ f (a i)
put_count f b a n x xs ys p was here other i = go (cases_eq i n)
  where
    go : (i ≡ n) ⊎ (i ≡ n → ⊥) → times i ys ≡ f (a i)
    go (inl e) = rw (e, p.here) here
    go (inr ne) = rw (p.others i ne) (other i ne ∙ was i)

same_count : (f : Slot → ℕ) (b a : ℕ → Slot) (xs : List ℕ) → Same b a → ((i : ℕ) → times i xs ≡ f (b i)) → (i : ℕ) → times i xs ≡ f (a i)
same_count f b a xs e was i = rw (e i) (was i)

same_tally : {g sp : ℕ} {os ls : List ℕ} (b a : ℕ → Slot) → Same b a → Tallied g sp os ls b → Tallied g sp os ls a
same_tally {g} {sp} {os} {ls} b a e t = record { adds = t.adds; held = same_count held_count b a os e t.held; kept = same_count late_count b a ls e t.kept }

-- one number has changed, but not who has it
step_tally : {g sp : ℕ} {os ls : List ℕ} (b a : ℕ → Slot) (n : ℕ) (x : Slot) → Put b n x a → held_count (b n) ≡ held_count x → late_count (b n) ≡ late_count x → Tallied g sp os ls b → Tallied g sp os ls a
step_tally {g} {sp} {os} {ls} b a n x p e f t = record {
  adds = t.adds;
  held = put_count held_count b a n x os os p t.held (t.held n ∙ e) (λ i ne. refl);
  kept = put_count late_count b a n x ls ls p t.kept (t.kept n ∙ f) (λ i ne. refl);
}

submit_tally : (g sp : ℕ) (os ls : List ℕ) (b a : ℕ → Slot) (n : ℕ) (p : Pending) → b n ≡ is_free → Put b n (is_open p) a → Tallied g sp os ls b → Tallied (g + 1) sp (n ∷ os) ls a
submit_tally g sp os ls b a n p free put t = record {
  adds = let e = t.adds in omega arith;
  held = put_count held_count b a n (is_open p) os (n ∷ os) put t.held (times_same n os ∙ rw (t.held n, free)) (λ i ne. times_other i n os ne);
  kept = put_count late_count b a n (is_open p) ls ls put t.kept (t.kept n ∙ rw free) (λ i ne. refl);
}

told_tally : (K : Codec) {g sp : ℕ} {os ls : List ℕ} (b a : ℕ → Slot) {r : Read} {k : Kind} → Told K b a r k → Tallied g sp os ls b → Tallied g sp os (late_after_line k ls) a
told_tally K b a (told_fault n p e) t = same_tally b a e t
told_tally K b a (told_event m k e) t = same_tally b a e t
told_tally K b a (told_notice m k e) t = same_tally b a e t
told_tally K b a (told_unknown m n k l i e) t = same_tally b a e t
told_tally K b a (told_elsewhere m n p k l i x e) t = same_tally b a e t
told_tally K b a (told_misplaced m n p k l i x y e) t = same_tally b a e t
told_tally K b a (told_more m n p q k l is x y put) t = step_tally b a n _ put (rw is) (rw is) t
told_tally K b a (told_last m n p k l is x y put) t = step_tally b a n _ put (rw is) (rw is) t
told_tally K b a (told_late m n p q k l is x y put) t = step_tally b a n _ put (rw is) (rw is) t
told_tally K {os = os} {ls = ls} b a (told_late_last m n p k l is x y put) t =
    let one : times n ls ≡ 1 = t.kept n ∙ rw is in
    let gone = remove_same n ls (omega arith) in
    record {
      adds = t.adds;
      held = put_count held_count b a n is_free os os put t.held (t.held n ∙ rw is) (λ i ne. refl);
      kept = put_count late_count b a n is_free ls (remove n ls) put t.kept (omega arith) (λ i ne. remove_other i n ls ne);
    }

settle_tally : (g sp : ℕ) (os ls : List ℕ) (b a : ℕ → Slot) (n : ℕ) (o : Outcome) → 0 < times n os → Settles b n a o → Tallied g sp os ls b → Tallied g (sp + one_if_own o) (remove n os) (late_after_settle o n ls) a
settle_tally g sp os ls b a n o is-out (was_answered is put) t =
    let gone = remove_same n os is-out in
    let one : times n os ≡ 1 = t.held n ∙ rw is in
    record {
      adds = let e = t.adds in let f = length_remove n os is-out in omega arith;
      held = put_count held_count b a n is_free os (remove n os) put t.held (omega arith) (λ i ne. remove_other i n os ne);
      kept = put_count late_count b a n is_free ls ls put t.kept (t.kept n ∙ rw is) (λ i ne. refl);
    }
settle_tally g sp os ls b a n o is-out (was_lost is put) t =
    let gone = remove_same n os is-out in
    let one : times n os ≡ 1 = t.held n ∙ rw is in
    record {
      adds = let e = t.adds in let f = length_remove n os is-out in omega arith;
      held = put_count held_count b a n is_free os (remove n os) put t.held (omega arith) (λ i ne. remove_other i n os ne);
      kept = put_count late_count b a n is_free ls ls put t.kept (t.kept n ∙ rw is) (λ i ne. refl);
    }
settle_tally g sp os ls b a n o is-out (was_open p is put) t =
    let gone = remove_same n os is-out in
    let one : times n os ≡ 1 = t.held n ∙ rw is in
    let none : times n ls ≡ 0 = t.kept n ∙ rw is in
    record {
      adds = let e = t.adds in let f = length_remove n os is-out in omega arith;
      held = put_count held_count b a n (is_given_up p) os (remove n os) put t.held (omega arith) (λ i ne. remove_other i n os ne);
      kept = put_count late_count b a n (is_given_up p) ls (n ∷ ls) put t.kept (times_same n ls ∙ rw none) (λ i ne. times_other i n ls ne);
    }
settle_tally g sp os ls b a n o is-out (not_held no_message same) t = absurd (no_message (go (b n) (t.held n)))
  where
    go : (x : Slot) → times n os ≡ held_count x → HeldSlot x
    go is_free e = absurd (omega arith)
    go (is_open p) e = tt
    go is_answered e = tt
    go is_lost e = tt
    go (is_given_up p) e = absurd (omega arith)

reset_held : (x : Slot) → held_count (after_reset x) ≡ held_count x
reset_held is_free = refl
reset_held (is_open p) = refl
reset_held is_answered = refl
reset_held is_lost = refl
reset_held (is_given_up p) = refl

reset_late : (x : Slot) → late_count (after_reset x) ≡ 0
reset_late is_free = refl
reset_late (is_open p) = refl
reset_late is_answered = refl
reset_late is_lost = refl
reset_late (is_given_up p) = refl

kept_link : {K : Codec} {h : History} {s t : State} {c : Call} → Does K h s t c → t.link ≡ s.link
kept_link (did_refuse e) = ap (λ (x : State). x.link) e
kept_link (did_clear v r) = r.rest.link
kept_link (did_submit n m r) = r.link
kept_link (did_dry r) = r.link
kept_link (did_hand k l x r) = r.link
kept_link (did_settle u n o ok r) = r.link
kept_link (did_reset n r) = r.link
kept_link (did_arrive bytes k r) = r.rest.link
kept_link (did_depart old new k r) = r.rest.link

pub same_link : (K : Codec) (first : State) {h : History} {s : State} → Leads K first h s → s.link ≡ first.link
same_link K first (making n) = refl
same_link K first (emission l w) = same_link K first w
same_link K first (call c t w d) = kept_link d ∙ same_link K first w

settled_tally : (K : Codec) (link : ℕ) (h : History) (s t : State) (u n : ℕ) (o : Outcome) → s.link ≡ link → (0 < times n (out link h)) ⊎ (u ≡ link → ⊥) → Settled s u n o t → Tally link h s → Tally link (settled u n o ∷ h) t
settled_tally K link h s t u n o l ok r y = go (cases_eq u link) ok
  where
    go : (u ≡ link) ⊎ (u ≡ link → ⊥) → (0 < times n (out link h)) ⊎ (u ≡ link → ⊥) → Tally link (settled u n o ∷ h) t
    go (inl e) (inl is-out) = rw (eq-eqb u link e, settled_push) (settle_tally _ _ (out link h) (waiting_late h) s.slots t.slots n o is-out (r.here (e ∙ sym l)) y)
    go (inl e) (inr ne) = absurd (ne e)
    go (inr ne) x =
        let el = r.elsewhere (λ e. ne (e ∙ l)) in
        rw (ne_eqb u link ne, el.0, settled_push) (same_tally s.slots t.slots el.1 (record { adds = let e = y.adds in omega arith; held = y.held; kept = y.kept }))

pub tally : (K : Codec) (first : State) {h : History} {s : State} → Leads K first h s → Tally first.link h s
tally K first (making n) = record { adds = refl; held = λ i. rw (n.slots i); kept = λ i. rw (n.slots i) }
tally K first (emission l w) = tally K first w
tally K first (call {h} {s} c t w (did_refuse e)) = rw e (tally K first w)
tally K first (call {h} {s} c t w (did_clear v r)) = same_tally s.slots t.slots r.rest.slots (tally K first w)
tally K first (call {h} {s} c t w (did_submit n m r)) = rw length_push (submit_tally _ _ (out first.link h) (waiting_late h) s.slots t.slots n _ r.number.free r.slots (tally K first w))
tally K first (call {h} {s} c t w (did_dry r)) = same_tally s.slots t.slots r.slots (tally K first w)
tally K first (call {h} {s} c t w (did_hand k l x r)) = told_tally K s.slots t.slots r.told (tally K first w)
tally K first (call {h} {s} c t w (did_settle u n o ok r)) = let l = same_link K first w in settled_tally K first.link h s t u n o l (rw l at ok) r (tally K first w)
tally K first (call {h} {s} c t w (did_reset n r)) =
    let y = tally K first w in
    record { adds = y.adds; held = λ i. y.held i ∙ rw (r.slots i) (sym (reset_held (s.slots i))); kept = λ i. rw (r.slots i) (sym (reset_late (s.slots i))) }
tally K first (call {h} {s} c t w (did_arrive bytes k r)) = same_tally s.slots t.slots r.rest.slots (tally K first w)
tally K first (call {h} {s} c t w (did_depart old new k r)) = same_tally s.slots t.slots r.rest.slots (tally K first w)

held_one : (x : Slot) → HeldSlot x → held_count x ≡ 1
held_one is_free h = absurd h
held_one (is_open p) h = refl
held_one is_answered h = refl
held_one is_lost h = refl
held_one (is_given_up p) h = absurd h

one_held : (x : Slot) → 0 < held_count x → HeldSlot x
one_held is_free h = omega arith
one_held (is_open p) h = tt
one_held is_answered h = tt
one_held is_lost h = tt
one_held (is_given_up p) h = omega arith

held_once : (x : Slot) → held_count x ≤ 1
held_once is_free = omega arith
held_once (is_open p) = omega arith
held_once is_answered = omega arith
held_once is_lost = omega arith
held_once (is_given_up p) = omega arith

late_none : (x : Slot) → 0 < late_count x → held_count x ≡ 0
late_none is_free h = refl
late_none (is_open p) h = omega arith
late_none is_answered h = omega arith
late_none is_lost h = omega arith
late_none (is_given_up p) h = refl

pub counted : (K : Codec) (first s : State) (h : History) → Leads K first h s → Counted first.link (λ n. HeldSlot (s.slots n)) h
counted K first s h w = let y = tally K first w in record {
  adds_up = y.adds;
  held_is_out = λ n x. y.held n ∙ held_one (s.slots n) x;
  out_is_held = λ n x. one_held (s.slots n) (rw (y.held n) at x);
  out_once = λ n. rw (y.held n) (held_once (s.slots n));
  late_is_not_out = λ n x. y.held n ∙ late_none (s.slots n) (rw (y.kept n) at x);
}
