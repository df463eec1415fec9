-- The third promise, by an invariant on all that happened since the last reset.
use Rattle.std.proofs.Common.{◌≡◌, ℕ, ◌+◌, ◌<◌, ◌≤◌, Bool, true, false, cond, eqb, ◌⊎◌, List, [], ◌∷◌, ◌++◌, map, length, get_or, take, None, sym, refl, ap, ◌∙◌, subst, subst₂, inl, inr, append_assoc, append-nil, arith}
use Rattle.std.proofs.lemmas.List.{length-append, length-map, length_push, map-append, get_or-map, get_or_append_left, get_or_push, take-append-le, take_all, take_at, take_more}
use Rattle.std.proofs.lemmas.Bool.{cases_eq, cases_lt, eq-eqb, ne_eqb, eqb-true}
use Rattle.line.specs.Forms.{command as to_player}
use Rattle.line.specs.Lines.{Message, Read, meant, faulty}
use Rattle.reader.specs.Cutting.{lines_from, left_from, lines_read, Part}
use Rattle.life.specs.Codec.{Codec, Lawful, as_shown}
use Rattle.port.specs.Port.{Meaning, Departed}
use Rattle.port.specs.Runs.{begun as no_call, depart}
use Rattle.port.proofs.Runs.{keeps}
use Rattle.life.specs.Answers.{WholeAnswer}
use Rattle.life.specs.Calls.{Kind, event, Outcome, Line, event_line, empty_line, answer_line, quiet, submitted, dry, handed, settled, reset, arrived, departed, emitted, History, Begins, add_to, ever, since, before, messages, accepted, lines, shown, bytes_in, bytes_out}
use Rattle.life.specs.Player.{line_bytes, all_bytes, answer_to, commands_read, MayEmit, may_empty, may_event, may_answer, Honest}
use Rattle.life.specs.Promises.{last_got, goes_to, lines_of, with_line, emitted_for, not_empty, emitted_since, count_shown, told_so_far, next_emitted, Right, right_event, right_answer, HandedRight, Matched}
use Rattle.life.specs.Link.{Pending, Slot, is_free, is_open, is_given_up, State, Same, Put, Waits, when_open, when_given_up, FirstFree, begun, ended_line, Submits, Hands, Settles, was_answered, was_lost, was_open, not_held, Settled, Leads, making, call, emission, did_refuse, did_clear, did_submit, did_dry, did_hand, did_settle, did_reset, did_arrive, did_depart}
use Rattle.reader.proofs.Cutting.{left_append, lines_append}
use Rattle.life.proofs.Taking.{add_is, lines_one, left_one, lines_end_more, begins_read, Takes, takes}
use Rattle.life.proofs.InOrder.{ReadSoFar, Order, order}
use Rattle.life.proofs.Answering.{whole_from, no_longer}
use Rattle.life.proofs.Emitted.{text, all_bytes_push, not_empty_append, answer_append, answer_not_empty, answer_same, answer_other, begins_answer, answer_none, at_place}
use Rattle.life.proofs.NextLine.{Waiting, WaitingOrWhole, To, to_more, to_last, to_late, to_late_last, HandedOn, waits_one, waits_idle, event_told, hand_on}

-- what a list of messages is read as beyond its end
abbrev pub no_message : Message
no_message = record { side = to_player; address = record { device = []; zone = None }; mark = 0; fields = [] }

-- the bytes departed and those still outgoing are just the lines of the messages accepted
pub record Sent (K : Codec) (outs outgoing : List ℕ) (ms : List Message) : Type 0 where
  pub read : lines_read K.as_command (outs ++ outgoing) ≡ map meant ms
  pub ended : left_from [] (outs ++ outgoing) ≡ []

-- a player that has received `got` and emitted `pre` may emit this line, empty lines aside
pub data Allowed (K : Codec) (got : List Read) (pre : List Line) : Line → Type 0 where
  allowed_event : (l : List ℕ) (e : ℕ) (m : Message) → K.as_answer l ≡ meant m → m.mark ≡ 33 → Allowed K got pre (event_line l e)
  allowed_answer : (n : ℕ) (l : List ℕ) (e : ℕ) (m command : Message) (to_come : List (List ℕ))
      → n < length got → get_or got n (faulty 0 0) ≡ meant command
      → K.as_answer l ≡ meant m → K.same_address m.address command.address ≡ true → m.mark ≡ command.mark
      → WholeAnswer K command (answer_to n pre ++ (l ∷ to_come)) → Allowed K got pre (answer_line n l e)

abbrev pub AllAllowed : Codec → List Read → List Line → Type 0
AllAllowed K got es = (j : ℕ) → j < length es → Allowed K got (take j es) (get_or es j (empty_line 13))

-- all that was emitted are whole lines, each one that the player might emit; bytes arrived are a beginning of their bytes
pub record Emits (K : Codec) (outs ins : List ℕ) (ls : List Line) : Type 0 where
  pub begins : Begins ins (all_bytes ls)
  pub cut : lines_from [] (all_bytes ls) ≡ map text (not_empty ls)
  pub ended : left_from [] (all_bytes ls) ≡ []
  pub allowed : AllAllowed K (lines_read K.as_command outs) (not_empty ls)

-- The lines of each ticket, where es were emitted since the last reset and j of them were handed out: `given k` were handed to the kth
-- ticket, and `done k` emitted in answer to its command.
pub record Shared (base j count : ℕ) (es : List Line) (given done : ℕ → List (List ℕ)) : Type 0 where
  pub few : j ≤ length es
  pub fresh : (n : ℕ) → count ≤ n → answer_to n es ≡ []
  pub given_is : (n : ℕ) → given (base + n) ≡ answer_to n (take j es)
  pub done_is : (n : ℕ) → done (base + n) ≡ answer_to n es
  pub own : (k : ℕ) → Begins (given k) (done k)

-- each command since the last reset either has its number still, open or given up, or was answered to the end
abbrev pub Commands : Codec → ℕ → ℕ → List Message → List Line → (ℕ → ℕ → Bool) → (ℕ → Slot) → Type 0
Commands K base j ms es owner b = (n : ℕ) → n < length ms
    → WaitingOrWhole K b owner (base + n) (get_or ms n no_message) (answer_to n (take j es))

-- The invariant. `base` submits were accepted before the last reset, and since then the messages ms, so `total` in all. The bytes outs
-- departed, ins arrived; the lines ls were emitted and j lines handed out. `owner n k` says that the kth ticket last got the number n.
pub record Match (K : Codec) (ms : List Message) (outs outgoing ins : List ℕ) (ls : List Line) (j base total : ℕ) (given done : ℕ → List (List ℕ)) (owner : ℕ → ℕ → Bool) (b : ℕ → Slot) : Type 0 where
  pub sent : Sent K outs outgoing ms
  pub emits : Emits K outs ins ls
  pub total_is : total ≡ base + length ms
  pub shared : Shared base j (length ms) (not_empty ls) given done
  pub commands : Commands K base j ms (not_empty ls) owner b

-- which ticket last got a number, and the lines handed out with the next one
abbrev pub owners : History → ℕ → ℕ → Bool
owners h n k = last_got n k h

abbrev pub told_with_next : History → List Line
told_with_next h = take (count_shown h + 1) (emitted_since h)

-- the same of a history and of the state that it leads to
abbrev pub MatchOf : Codec → History → State → Type 0
MatchOf K h s = Match K (since messages [] h) (since bytes_out [] h) s.port.outgoing (since bytes_in [] h) (since lines [] h) (count_shown h) (before h) (length (ever accepted h)) (λ k. lines_of k h) (λ k. emitted_for k h) (owners h) s.slots

-- ---- one ticket last got a number
pub last_one : (n k i : ℕ) (h : History) → last_got n k h ≡ true → last_got n i h ≡ true → k ≡ i
last_one n k i [] e f = let z : ◌≡◌ {A = ℕ} 0 1 = cc in omega arith
last_one n k i (quiet ∷ h) e f = last_one n k i h e f
last_one n k i (submitted x m ∷ h) e f = go (last_one n k i h) (eqb x n) refl
  where
    go : (last_got n k h ≡ true → last_got n i h ≡ true → k ≡ i) → (v : Bool) → eqb x n ≡ v → k ≡ i
    go ih true q = eqb-true k (length (ever accepted h)) (rw q at e) ∙ sym (eqb-true i (length (ever accepted h)) (rw q at f))
    go ih false q = ih (rw q at e) (rw q at f)
last_one n k i (dry ∷ h) e f = last_one n k i h e f
last_one n k i (handed y l r ∷ h) e f = last_one n k i h e f
last_one n k i (settled t y o ∷ h) e f = last_one n k i h e f
last_one n k i (reset y ∷ h) e f = last_one n k i h e f
last_one n k i (arrived bs ∷ h) e f = last_one n k i h e f
last_one n k i (departed bs ∷ h) e f = last_one n k i h e f
last_one n k i (emitted l ∷ h) e f = last_one n k i h e f

-- what departed, followed by what is still outgoing, was outgoing
departed_all : (m z : Meaning) (old new : List ℕ) (k : ℕ) → Departed m z old new k → take k new ++ z.outgoing ≡ m.outgoing
departed_all m z old new k d = ((keeps m).run z _ (depart no_call d)).outgoing ∙ append-nil m.outgoing

given_small : (b : ℕ → Slot) (r n : ℕ) → FirstFree b r n → n < 10
given_small b r n f = let e = f.there in omega arith

module _ (K : Codec) (L : Lawful K) where
  -- ---- what the player has received, against what was submitted
  got_begins : (outs outgoing : List ℕ) (ms : List Message) → Sent K outs outgoing ms → Begins (lines_read K.as_command outs) (map meant ms)
  got_begins outs outgoing ms o = rw (← o.read) (begins_read K.as_command outs outgoing)

  got_is : (outs outgoing : List ℕ) (ms : List Message) → Sent K outs outgoing ms → (n : ℕ) (command : Message) → n < length (lines_read K.as_command outs)
      → get_or (lines_read K.as_command outs) n (faulty 0 0) ≡ meant command → (n < length ms) × (get_or ms n no_message ≡ command)
  got_is outs outgoing ms o n command lt is = (few, same)
    where
      got : List Read
      got = lines_read K.as_command outs

      bg : Begins got (map meant ms)
      bg = got_begins outs outgoing ms o

      few : n < length ms
      few = let e = ap length bg.1 in let f = length-append got bg.0 in let g = length-map ms meant in omega arith

      at : meant (get_or ms n no_message) ≡ meant command
      at = sym (get_or-map meant ms n no_message (faulty 0 0) few) ∙ ap (λ (z : List Read). get_or z n (faulty 0 0)) (sym bg.1) ∙ get_or_append_left got bg.0 (faulty 0 0) n lt ∙ is

      same : get_or ms n no_message ≡ command
      same = let z = at in cc

  -- the player has received more
  allowed_more : (got rest : List Read) (es : List Line) → AllAllowed K got es → AllAllowed K (got ++ rest) es
  allowed_more got rest es f j lt = go (f j lt)
    where
      go : {x : Line} → Allowed K got (take j es) x → Allowed K (got ++ rest) (take j es) x
      go (allowed_event l e m r q) = allowed_event l e m r q
      go (allowed_answer n l e m c tc nlt is r ad mk w) = allowed_answer n l e m c tc (let k = length-append got rest in omega arith) (get_or_append_left got rest (faulty 0 0) n nlt ∙ is) r ad mk w

  -- and has emitted a line more
  allowed_push : (got : List Read) (es : List Line) (x : Line) → AllAllowed K got es → Allowed K got es x → AllAllowed K got (es ++ (x ∷ []))
  allowed_push got es x f now j lt = go (cases_lt j (length es))
    where
      go : (j < length es) ⊎ (length es ≤ j) → Allowed K got (take j (es ++ (x ∷ []))) (get_or (es ++ (x ∷ [])) j (empty_line 13))
      go (inl l) = rw (take-append-le j es (x ∷ []) (omega arith), get_or_append_left es (x ∷ []) (empty_line 13) j l) (f j l)
      go (inr l) =
          let is : length es ≡ j = let k = length_push es x in omega arith in
          rw (take_at es (x ∷ []) j is, get_or_push es x (empty_line 13) j is) now

  -- ---- submit
  sent_more : (outs outgoing : List ℕ) (ms : List Message) (m : Message) → K.sendable m ≡ true → Sent K outs outgoing ms → Sent K outs (outgoing ++ (K.canonical m ++ (13 ∷ []))) (ms ++ (m ∷ []))
  sent_more outs outgoing ms m ok o = record {
    read = rw (← regroup) (ap (map K.as_command) whole ∙ map-append K.as_command (lines_from [] (outs ++ outgoing)) (K.canonical m ∷ []) ∙ rw (o.read, L.canonical_reads m ok) (sym (map-append meant ms (m ∷ []))));
    ended = rw (← regroup) (left_append [] (outs ++ outgoing) (K.canonical m ++ (13 ∷ [])) ∙ rw o.ended (left_one (K.canonical m) 13 refl));
  }
    where
      regroup : (outs ++ outgoing) ++ (K.canonical m ++ (13 ∷ [])) ≡ outs ++ (outgoing ++ (K.canonical m ++ (13 ∷ [])))
      regroup = append_assoc outs outgoing (K.canonical m ++ (13 ∷ []))

      whole : lines_from [] ((outs ++ outgoing) ++ (K.canonical m ++ (13 ∷ []))) ≡ lines_from [] (outs ++ outgoing) ++ (K.canonical m ∷ [])
      whole = lines_append [] (outs ++ outgoing) (K.canonical m ++ (13 ∷ [])) ∙ rw (o.ended, lines_one (K.canonical m) 13 (L.canonical_plain m ok).clean refl (L.canonical_plain m ok).not_empty)

  keep_waiting : {b : ℕ → Slot} {owner : ℕ → ℕ → Bool} {k : ℕ} {c : Message} {ls : List (List ℕ)} (a : ℕ → Slot) (holder : ℕ → ℕ → Bool) (al : Waiting K b owner k c ls) → Waits (a al.number) al.pending → holder al.number k ≡ true → Waiting K a holder k c ls
  keep_waiting a holder al w o = let x = al.here in record { number = al.number; pending = al.pending; here = record { small = x.small; mark = x.mark; waits = w; address = x.address; browse = x.browse; place = x.place; owned = o } }

  submit_commands : (base j : ℕ) (ms : List Message) (es : List Line) (owner : ℕ → ℕ → Bool) (b a : ℕ → Slot) (x total : ℕ) (m : Message) → total ≡ base + length ms → x < 10 → m.mark ≡ 48 + x → b x ≡ is_free → Put b x (is_open (begun K m)) a
      → answer_to (length ms) es ≡ [] → Commands K base j ms es owner b → Commands K base j (ms ++ (m ∷ [])) es (λ n k. cond (eqb x n) (eqb k total) (owner n k)) a
  submit_commands base j ms es owner b a x total m tot small mark free put fresh cs n lt = go (cases_lt n (length ms))
    where
      holder : ℕ → ℕ → Bool
      holder n k = cond (eqb x n) (eqb k total) (owner n k)

      old : (c : Message) (ls : List (List ℕ)) → WaitingOrWhole K b owner (base + n) c ls → WaitingOrWhole K a holder (base + n) c ls
      old c ls (inl al) =
          let ne : al.number ≡ x → ⊥ = λ e. waits_idle (rw (ap b e ∙ free) at al.here.waits) tt in
          inl (keep_waiting a holder al (rw (put.others al.number ne) al.here.waits) (rw (ne_eqb x al.number (λ e. ne (sym e))) al.here.owned))
      old c ls (inr w) = inr w

      new : length ms ≡ n → Waiting K a holder (base + n) m (answer_to n (take j es))
      new e = record {
        number = x;
        pending = begun K m;
        here = record {
          small = small;
          mark = mark;
          waits = rw put.here (when_open (begun K m));
          address = refl;
          browse = refl;
          place = λ rest v. rw (answer_none n j es (rw e at fresh)) at v;
          owned = rw (eq-eqb x x refl, tot, e) (eq-eqb (base + n) (base + n) refl);
        };
      }

      go : (n < length ms) ⊎ (length ms ≤ n) → WaitingOrWhole K a holder (base + n) (get_or (ms ++ (m ∷ [])) n no_message) (answer_to n (take j es))
      go (inl l) = rw (get_or_append_left ms (m ∷ []) no_message n l) (old (get_or ms n no_message) (answer_to n (take j es)) (cs n l))
      go (inr l) =
          let e : length ms ≡ n = let k = length_push ms m in omega arith in
          rw (get_or_push ms m no_message n e) (inl (new e))

  -- ---- settle, and every call after which what was open or given up still is one of them
  keep_commands : (base j : ℕ) (ms : List Message) (es : List Line) (owner : ℕ → ℕ → Bool) (b a : ℕ → Slot) → ((y : ℕ) (p : Pending) → Waits (b y) p → Waits (a y) p) → Commands K base j ms es owner b → Commands K base j ms es owner a
  keep_commands base j ms es owner b a keep cs n lt = go (cs n lt)
    where
      go : {c : Message} {ls : List (List ℕ)} → WaitingOrWhole K b owner (base + n) c ls → WaitingOrWhole K a owner (base + n) c ls
      go (inl al) = inl (keep_waiting a owner al (keep al.number al.pending al.here.waits) al.here.owned)
      go (inr w) = inr w

  same_keeps : (b a : ℕ → Slot) → Same b a → (y : ℕ) (p : Pending) → Waits (b y) p → Waits (a y) p
  same_keeps b a e y p w = rw (e y) w

  put_keeps : (b a : ℕ → Slot) (n : ℕ) (x : Slot) → Put b n x a → ((p : Pending) → Waits (b n) p → Waits x p) → (y : ℕ) (p : Pending) → Waits (b y) p → Waits (a y) p
  put_keeps b a n x put here y p w = go (cases_eq y n)
    where
      go : (y ≡ n) ⊎ (y ≡ n → ⊥) → Waits (a y) p
      go (inl e) = rw (e, put.here) (here p (rw e at w))
      go (inr ne) = rw (put.others y ne) w

  settle_keeps : (b a : ℕ → Slot) (n : ℕ) {o : Outcome} → Settles b n a o → (y : ℕ) (p : Pending) → Waits (b y) p → Waits (a y) p
  settle_keeps b a n (was_answered is put) = put_keeps b a n is_free put (λ p w. absurd (waits_idle (rw is at w) tt))
  settle_keeps b a n (was_lost is put) = put_keeps b a n is_free put (λ p w. absurd (waits_idle (rw is at w) tt))
  settle_keeps b a n (was_open q is put) = put_keeps b a n (is_given_up q) put (λ p w. rw (waits_one (rw is at w) (when_open q)) (when_given_up q))
  settle_keeps b a n (not_held x same) = same_keeps b a same

  -- ---- an emission
  with_line_is : (base n : ℕ) (x : Line) (ls : List (List ℕ)) → with_line base x (base + n) ls ≡ ls ++ answer_to n (not_empty (x ∷ []))
  with_line_is base n (event_line l e) ls = sym (append-nil ls)
  with_line_is base n (empty_line e) ls = sym (append-nil ls)
  with_line_is base n (answer_line k l e) ls = go (cases_eq k n)
    where
      go : (k ≡ n) ⊎ (k ≡ n → ⊥) → with_line base (answer_line k l e) (base + n) ls ≡ ls ++ answer_to n (answer_line k l e ∷ [])
      go (inl q) = rw (eq-eqb (base + k) (base + n) (omega arith), eq-eqb k n q)
      go (inr ne) = rw (ne_eqb (base + k) (base + n) (λ q. ne (omega arith)), ne_eqb k n ne) (sym (append-nil ls))

  begins_more : {X : Type 0} (xs ys zs : List X) → Begins xs ys → Begins xs (ys ++ zs)
  begins_more xs ys zs b = (b.0 ++ zs, sym (append_assoc xs b.0 zs) ∙ ap (λ w. w ++ zs) b.1)

  begins_with_line : (base k : ℕ) (x : Line) (xs ys : List (List ℕ)) → Begins xs ys → Begins xs (with_line base x k ys)
  begins_with_line base k (event_line l e) xs ys b = b
  begins_with_line base k (empty_line e) xs ys b = b
  begins_with_line base k (answer_line n l e) xs ys b = go (eqb (base + n) k)
    where
      go : (v : Bool) → Begins xs (cond v (ys ++ (l ∷ [])) ys)
      go true = begins_more xs ys (l ∷ []) b
      go false = b

  emits_more : (outs ins : List ℕ) (ls : List Line) (x : Line) → lines_from [] (line_bytes x) ≡ map text (not_empty (x ∷ [])) → left_from [] (line_bytes x) ≡ [] → AllAllowed K (lines_read K.as_command outs) (not_empty ls ++ not_empty (x ∷ [])) → Emits K outs ins ls → Emits K outs ins (ls ++ (x ∷ []))
  emits_more outs ins ls x cut left allowed o = record {
    begins = rw (all_bytes_push ls x) (begins_more ins (all_bytes ls) (line_bytes x) o.begins);
    cut = rw (all_bytes_push ls x, not_empty_append ls (x ∷ [])) (lines_append [] (all_bytes ls) (line_bytes x) ∙ rw (o.cut, o.ended, cut) (sym (map-append text (not_empty ls) (not_empty (x ∷ [])))));
    ended = rw (all_bytes_push ls x) (left_append [] (all_bytes ls) (line_bytes x) ∙ rw o.ended left);
    allowed = rw (not_empty_append ls (x ∷ [])) allowed;
  }

  shared_more : (base j count : ℕ) (ls : List Line) (given done : ℕ → List (List ℕ)) (x : Line) → ((n : ℕ) → count ≤ n → answer_to n (not_empty (x ∷ [])) ≡ []) → Shared base j count (not_empty ls) given done → Shared base j count (not_empty (ls ++ (x ∷ []))) given (λ k. with_line base x k (done k))
  shared_more base j count ls given done x fresh o = rw (not_empty_append ls (x ∷ [])) (record {
    few = let k = length-append (not_empty ls) (not_empty (x ∷ [])) in let q = o.few in omega arith;
    fresh = λ n le. answer_append n (not_empty ls) (not_empty (x ∷ [])) ∙ rw (o.fresh n le) (fresh n le);
    given_is = λ n. o.given_is n ∙ ap (answer_to n) (sym (take-append-le j (not_empty ls) (not_empty (x ∷ [])) o.few));
    done_is = λ n. with_line_is base n x (done (base + n)) ∙ rw (o.done_is n) (sym (answer_append n (not_empty ls) (not_empty (x ∷ []))));
    own = λ k. begins_with_line base k x (given k) (done k) (o.own k);
  })

  emit : (ms : List Message) (outs outgoing ins : List ℕ) (ls : List Line) (j base total : ℕ) (given done : ℕ → List (List ℕ)) (owner : ℕ → ℕ → Bool) (b : ℕ → Slot) (x : Line)
      → lines_from [] (line_bytes x) ≡ map text (not_empty (x ∷ [])) → left_from [] (line_bytes x) ≡ []
      → AllAllowed K (lines_read K.as_command outs) (not_empty ls ++ not_empty (x ∷ []))
      → ((n : ℕ) → length ms ≤ n → answer_to n (not_empty (x ∷ [])) ≡ [])
      → Match K ms outs outgoing ins ls j base total given done owner b → Match K ms outs outgoing ins (ls ++ (x ∷ [])) j base total given (λ k. with_line base x k (done k)) owner b
  emit ms outs outgoing ins ls j base total given done owner b x cut left allowed fresh o = record {
    sent = o.sent;
    emits = emits_more outs ins ls x cut left allowed o.emits;
    total_is = o.total_is;
    shared = shared_more base j (length ms) ls given done x fresh o.shared;
    commands = rw (not_empty_append ls (x ∷ [])) (λ n lt. rw (take-append-le j (not_empty ls) (not_empty (x ∷ [])) o.shared.few) (o.commands n lt));
  }

  emission_step : (h : History) (s : State) (x : Line) → MayEmit K h x → MatchOf K h s → MatchOf K (emitted x ∷ h) s
  emission_step h s x (may_empty e ie) o = emit _ _ _ _ (since lines [] h) _ _ _ _ _ _ _ (empty_line e) (rw ie) (rw ie) (rw append-nil o.emits.allowed) (λ n le. refl) o
  emission_step h s x (may_event l e m ie r mk) o =
      let pl = L.answer_plain l m r in
      emit _ _ _ _ (since lines [] h) _ _ _ _ _ _ _ (event_line l e) (lines_one l e pl.clean ie pl.not_empty) (left_one l e ie)
      (allowed_push _ (emitted_since h) (event_line l e) o.emits.allowed (allowed_event l e m r mk)) (λ n le. refl) o
  emission_step h s x (may_answer n l e m c tc ie lt is r ad mk w) o =
      let pl = L.answer_plain l m r in
      let g = got_is (since bytes_out [] h) s.port.outgoing (since messages [] h) o.sent n c lt is in
      emit _ _ _ _ (since lines [] h) _ _ _ _ _ _ _ (answer_line n l e) (lines_one l e pl.clean ie pl.not_empty) (left_one l e ie)
      (allowed_push _ (emitted_since h) (answer_line n l e) o.emits.allowed (allowed_answer n l e m c tc lt is r ad mk (rw (answer_not_empty n (since lines [] h)) w)))
      (λ i le. answer_other i n l e (λ q. let f = g.0 in omega arith)) o

  -- ---- pump with a finished line
  -- that line is the next one emitted
  comes_next : (outs ins : List ℕ) (ls : List Line) (r : List (List ℕ × Read)) (i : List ℕ) (p : Part) (l : List ℕ) (x : Read) (k : List ℕ) → Emits K outs ins ls → (w : ReadSoFar K ins r i p) → (y : Takes K (left_from [] w.consumed) i l x k)
      → (length r < length (not_empty ls)) × (text (get_or (not_empty ls) (length r) (empty_line 13)) ≡ left_from (left_from [] w.consumed) y.front)
  comes_next outs ins ls r i p l x k o w y = at_place (not_empty ls) cut_off (lines_from [] k ++ rest) line (length r) (regroup ∙ whole) (sym (length-map cut_off (as_shown K)) ∙ ap length (sym w.so_far))
    where
      cut_off : List (List ℕ)
      cut_off = lines_from [] w.consumed

      rest : List (List ℕ)
      rest = lines_from (left_from [] ins) o.begins.0

      u : List ℕ
      u = left_from [] w.consumed

      line : List ℕ
      line = left_from u y.front

      now : lines_from u i ≡ line ∷ lines_from [] k
      now = rw y.took (lines_append u y.front (y.stop ∷ k) ∙ rw y.none_before (lines_end_more line y.stop k y.ends y.not_empty))

      came : lines_from [] ins ≡ cut_off ++ (line ∷ lines_from [] k)
      came = rw (← w.all) (lines_append [] w.consumed i ∙ rw now)

      whole : (cut_off ++ (line ∷ lines_from [] k)) ++ rest ≡ map text (not_empty ls)
      whole = ap (λ (z : List (List ℕ)). z ++ rest) (sym came) ∙ sym (lines_append [] ins o.begins.0) ∙ ap (lines_from []) o.begins.1 ∙ o.cut

      regroup : (cut_off ++ (line ∷ [])) ++ (lines_from [] k ++ rest) ≡ (cut_off ++ (line ∷ lines_from [] k)) ++ rest
      regroup = simp append_assoc

  next_answer : (n j : ℕ) (es : List Line) → j < length es → answer_to n (take (j + 1) es) ≡ answer_to n (take j es) ++ answer_to n (get_or es j (empty_line 13) ∷ [])
  next_answer n j es lt = ap (answer_to n) (take_more es j (empty_line 13) lt) ∙ answer_append n (take j es) (get_or es j (empty_line 13) ∷ [])

  to_goes : {kind : Kind} {n : ℕ} → To kind n → (k : ℕ) (h : History) → goes_to kind k h ≡ last_got n k h
  to_goes (to_more n) k h = refl
  to_goes (to_last n) k h = refl
  to_goes (to_late n) k h = refl
  to_goes (to_late_last n) k h = refl

  hand : (ms : List Message) (outs outgoing ins : List ℕ) (ls : List Line) (j base total : ℕ) (given done : ℕ → List (List ℕ)) (owner : ℕ → ℕ → Bool) (b : ℕ → Slot) (after : List ℕ) (now : ℕ → List (List ℕ)) (a : ℕ → Slot)
      → after ≡ outgoing → j < length (not_empty ls) → ((n : ℕ) → now (base + n) ≡ answer_to n (take (j + 1) (not_empty ls))) → ((k : ℕ) → Begins (now k) (done k)) → Commands K base (j + 1) ms (not_empty ls) owner a
      → Match K ms outs outgoing ins ls j base total given done owner b → Match K ms outs after ins ls (j + 1) base total now done owner a
  hand ms outs outgoing ins ls j base total given done owner b after now a same lt now_is own cs o = record {
    sent = rw same o.sent;
    emits = o.emits;
    total_is = o.total_is;
    shared = record { few = omega arith; fresh = o.shared.fresh; given_is = now_is; done_is = o.shared.done_is; own = own };
    commands = cs;
  }

  module _ (h : History) (s t : State) (kind : Kind) (l : List ℕ) (r : Read) (hd : Hands K s kind l r t) (line : List ℕ) (cut_is : l ≡ take 1024 line) (read_is : r ≡ K.as_answer line) (o : MatchOf K h s) (lt : count_shown h < length (emitted_since h)) where
    abbrev ToldRight : Line → Type 0
    ToldRight x = Right K h kind l x × MatchOf K (handed kind l r ∷ h) t

    -- a readable line is short enough to stand in the buffer uncut
    stands : (m : Message) → K.as_answer line ≡ meant m → l ≡ line
    stands m rd = cut_is ∙ take_all 1024 line (L.answer_plain line m rd).short

    step_event : (e : ℕ) (m : Message) → next_emitted h ≡ event_line line e → K.as_answer line ≡ meant m → m.mark ≡ 33 → ToldRight (event_line line e)
    step_event e m is rd mk = (
      rw (told.0, stands m rd) (right_event line e),
      rw (told.0, length_push (since shown [] h) (l, r))
          (hand _ (since bytes_out [] h) s.port.outgoing _ (since lines [] h) (count_shown h) (before h) _ (λ k. lines_of k h) (λ k. emitted_for k h) (owners h) s.slots t.port.outgoing (λ k. lines_of k h) t.slots hd.port.outgoing lt
          (λ n. o.shared.given_is n ∙ sym (still n)) o.shared.own
          (λ n few. rw (still n) (keep_commands (before h) (count_shown h) (since messages [] h) (emitted_since h) (owners h) s.slots t.slots (same_keeps s.slots t.slots told.1) o.commands n few)) o),
    )
      where
        told : (kind ≡ event) × Same s.slots t.slots
        told = event_told K mk (rw (read_is ∙ rd) at hd.told)

        still : (n : ℕ) → answer_to n (told_with_next h) ≡ answer_to n (told_so_far h)
        still n = next_answer n (count_shown h) (emitted_since h) lt ∙ rw is (append-nil (answer_to n (told_so_far h)))

    module _ (n e : ℕ) (c : Message) (is : next_emitted h ≡ answer_line n line e)
        (mine : get_or (since messages [] h) n no_message ≡ c)
        (handed_it : HandedOn K s.slots t.slots (owners h) (before h + n) c (answer_to n (told_so_far h)) line kind)
        (same_l : l ≡ line) where
      -- the lines handed out now have one more in answer to this command, and none more to another
      grew : answer_to n (told_with_next h) ≡ answer_to n (told_so_far h) ++ (line ∷ [])
      grew = next_answer n (count_shown h) (emitted_since h) lt ∙ rw (is, answer_same n line e)

      others_same : (i : ℕ) → (i ≡ n → ⊥) → answer_to i (told_with_next h) ≡ answer_to i (told_so_far h)
      others_same i ne = next_answer i (count_shown h) (emitted_since h) lt ∙ rw (is, answer_other i n line e (λ q. ne (sym q))) (append-nil (answer_to i (told_so_far h)))

      goes_here : goes_to kind (before h + n) h ≡ true
      goes_here = to_goes handed_it.to (before h + n) h ∙ handed_it.owned

      goes_not : (k : ℕ) → (k ≡ before h + n → ⊥) → goes_to kind k h ≡ false
      goes_not k ne = to_goes handed_it.to k h ∙ go (last_got handed_it.number k h) refl
        where
          go : (v : Bool) → last_got handed_it.number k h ≡ v → last_got handed_it.number k h ≡ false
          go true q = absurd (ne (last_one handed_it.number k (before h + n) h q handed_it.owned))
          go false q = q

      now_here : lines_of (before h + n) (handed kind l r ∷ h) ≡ answer_to n (told_with_next h)
      now_here = rw (goes_here, same_l, o.shared.given_is n) (sym grew)

      now_is : (i : ℕ) → lines_of (before h + i) (handed kind l r ∷ h) ≡ answer_to i (told_with_next h)
      now_is i = go (cases_eq i n)
        where
          go : (i ≡ n) ⊎ (i ≡ n → ⊥) → lines_of (before h + i) (handed kind l r ∷ h) ≡ answer_to i (told_with_next h)
          go (inl q) = subst (λ (z : ℕ). lines_of (before h + z) (handed kind l r ∷ h) ≡ answer_to z (told_with_next h)) (sym q) now_here
          go (inr ne) = rw (goes_not (before h + i) (λ q. ne (omega arith)), o.shared.given_is i) (sym (others_same i ne))

      now_own : (k : ℕ) → Begins (lines_of k (handed kind l r ∷ h)) (emitted_for k h)
      now_own k = go (cases_eq k (before h + n))
        where
          go : (k ≡ before h + n) ⊎ (k ≡ before h + n → ⊥) → Begins (lines_of k (handed kind l r ∷ h)) (emitted_for k h)
          go (inl q) = subst (λ (z : ℕ). Begins (lines_of z (handed kind l r ∷ h)) (emitted_for z h)) (sym q) (subst₂ (λ (x y : List (List ℕ)). Begins x y) (sym now_here) (sym (o.shared.done_is n)) (begins_answer n (count_shown h + 1) (emitted_since h)))
          go (inr ne) = rw (goes_not k ne) (o.shared.own k)

      now_commands : Commands K (before h) (count_shown h + 1) (since messages [] h) (emitted_since h) (owners h) t.slots
      now_commands i few = go (cases_eq i n)
        where
          old : {d : Message} {ls : List (List ℕ)} → (i ≡ n → ⊥) → WaitingOrWhole K s.slots (owners h) (before h + i) d ls → WaitingOrWhole K t.slots (owners h) (before h + i) d ls
          old ne (inl al) =
              let apart : al.number ≡ handed_it.number → ⊥ = λ q. ne (let z = last_one handed_it.number (before h + i) (before h + n) h (rw q at al.here.owned) handed_it.owned in omega arith) in
              inl (keep_waiting t.slots (owners h) al (rw (handed_it.others al.number apart) al.here.waits) al.here.owned)
          old ne (inr w) = inr w

          go : (i ≡ n) ⊎ (i ≡ n → ⊥) → WaitingOrWhole K t.slots (owners h) (before h + i) (get_or (since messages [] h) i no_message) (answer_to i (told_with_next h))
          go (inl q) = rw (q, mine, grew) handed_it.now
          go (inr ne) = rw (others_same i ne) (old ne (o.commands i few))

      step_answer : get_or (commands_read K h) n (faulty 0 0) ≡ meant c → ToldRight (answer_line n line e)
      step_answer got = (
        rw same_l (right_answer kind n line e c got goes_here handed_it.tells handed_it.told),
        rw (length_push (since shown [] h) (l, r))
            (hand _ (since bytes_out [] h) s.port.outgoing _ (since lines [] h) (count_shown h) (before h) _ (λ k. lines_of k h) (λ k. emitted_for k h) (owners h) s.slots t.port.outgoing (λ k. lines_of k (handed kind l r ∷ h)) t.slots hd.port.outgoing lt
            now_is now_own now_commands o),
      )

    step : (x : Line) → next_emitted h ≡ x → text x ≡ line → Allowed K (commands_read K h) (told_so_far h) x → ToldRight x
    step x is tx (allowed_event k e m rd mk) = rw tx (step_event e m (is ∙ rw tx) (rw tx at rd) mk)
    step x is tx (allowed_answer n k e m c tc nlt got rd ad mk w) = rw tx (go (rw g.1 at (o.commands n g.0)))
      where
        g : (n < length (since messages [] h)) × (get_or (since messages [] h) n no_message ≡ c)
        g = got_is (since bytes_out [] h) s.port.outgoing (since messages [] h) o.sent n c nlt got

        so_far : List (List ℕ)
        so_far = answer_to n (told_so_far h)

        reads_line : K.as_answer line ≡ meant m
        reads_line = rw tx at rd

        whole_line : WholeAnswer K c (so_far ++ (line ∷ tc))
        whole_line = rw tx at w

        go : WaitingOrWhole K s.slots (owners h) (before h + n) c so_far → ToldRight (answer_line n line e)
        go (inl al) = step_answer n e c (is ∙ rw tx) g.1 (hand_on K s.slots t.slots (owners h) (before h + n) c so_far line m tc reads_line whole_line kind al ad mk (rw (read_is ∙ reads_line) at hd.told)) (stands m reads_line) got
        go (inr done) = absurd (no_longer K (whole_from K done) line tc (whole_from K whole_line))

  -- ---- the calls that hand nothing out
  keep : (ms : List Message) (outs outgoing ins : List ℕ) (ls : List Line) (j base total : ℕ) (given done : ℕ → List (List ℕ)) (owner : ℕ → ℕ → Bool) (b : ℕ → Slot) (after : List ℕ) (a : ℕ → Slot)
      → after ≡ outgoing → ((y : ℕ) (p : Pending) → Waits (b y) p → Waits (a y) p)
      → Match K ms outs outgoing ins ls j base total given done owner b → Match K ms outs after ins ls j base total given done owner a
  keep ms outs outgoing ins ls j base total given done owner b after a same keeps o = record {
    sent = rw same o.sent;
    emits = o.emits;
    total_is = o.total_is;
    shared = o.shared;
    commands = keep_commands base j ms (not_empty ls) owner b a keeps o.commands;
  }

  submit_step : (h : History) (s t : State) (n : ℕ) (m : Message) → Submits K s n m t → MatchOf K h s → MatchOf K (submitted n m ∷ h) t
  submit_step h s t n m r o = record {
    sent = rw (r.port.outgoing, take_all (length (ended_line K m)) (ended_line K m) (omega arith)) (sent_more (since bytes_out [] h) s.port.outgoing (since messages [] h) m r.sendable o.sent);
    emits = o.emits;
    total_is = let e = o.total_is in let f = length_push (ever accepted h) n in let g = length_push (since messages [] h) m in omega arith;
    shared = record {
      few = o.shared.few;
      fresh = λ i le. o.shared.fresh i (let g = length_push (since messages [] h) m in omega arith);
      given_is = o.shared.given_is;
      done_is = o.shared.done_is;
      own = o.shared.own;
    };
    commands = submit_commands (before h) (count_shown h) (since messages [] h) (emitted_since h) (owners h) s.slots t.slots n (length (ever accepted h)) m o.total_is (given_small s.slots s.recent n r.number) r.mark r.number.free r.slots
        (o.shared.fresh (length (since messages [] h)) (omega arith)) o.commands;
  }

  reset_step : (h : History) (s t : State) (n : ℕ) → t.port.outgoing ≡ [] → MatchOf K h s → MatchOf K (reset n ∷ h) t
  reset_step h s t n none o = record {
    sent = rw none (record { read = refl; ended = refl });
    emits = record { begins = ([], refl); cut = refl; ended = refl; allowed = λ j lt. absurd (omega arith) };
    total_is = omega arith;
    shared = record {
      few = omega arith;
      fresh = λ i le. refl;
      given_is = λ i. ap (λ (z : ℕ). lines_of z h) (past i) ∙ o.shared.given_is (length (since messages [] h) + i) ∙ answer_none (length (since messages [] h) + i) (count_shown h) (emitted_since h) (none_past i);
      done_is = λ i. ap (λ (z : ℕ). emitted_for z h) (past i) ∙ o.shared.done_is (length (since messages [] h) + i) ∙ none_past i;
      own = o.shared.own;
    };
    commands = λ i lt. absurd (omega arith);
  }
    where
      past : (i : ℕ) → length (ever accepted h) + i ≡ before h + (length (since messages [] h) + i)
      past i = let e = o.total_is in omega arith

      none_past : (i : ℕ) → answer_to (length (since messages [] h) + i) (emitted_since h) ≡ []
      none_past i = o.shared.fresh (length (since messages [] h) + i) (omega arith)

  arrive_step : (h : History) (s t : State) (bs : List ℕ) → t.port.outgoing ≡ s.port.outgoing → Same s.slots t.slots → Begins (since bytes_in [] h ++ bs) (all_bytes (since lines [] h)) → MatchOf K h s → MatchOf K (arrived bs ∷ h) t
  arrive_step h s t bs same slots bg o = record {
    sent = rw same o.sent;
    emits = let x = o.emits in record { begins = rw (add_is (since bytes_in [] h) bs) bg; cut = x.cut; ended = x.ended; allowed = x.allowed };
    total_is = o.total_is;
    shared = o.shared;
    commands = keep_commands _ _ _ (emitted_since h) (owners h) s.slots t.slots (same_keeps s.slots t.slots slots) o.commands;
  }

  depart_step : (h : History) (s t : State) (bs : List ℕ) → bs ++ t.port.outgoing ≡ s.port.outgoing → Same s.slots t.slots → MatchOf K h s → MatchOf K (departed bs ∷ h) t
  depart_step h s t bs took slots o = record {
    sent = record { read = rw regroup o.sent.read; ended = rw regroup o.sent.ended };
    emits = let x = o.emits in record { begins = x.begins; cut = x.cut; ended = x.ended; allowed = subst (λ (z : List Read). AllAllowed K z (emitted_since h)) (more_got.1 ∙ ap (lines_read K.as_command) (sym (add_is (since bytes_out [] h) bs))) (allowed_more (commands_read K h) more_got.0 (emitted_since h) x.allowed) };
    total_is = o.total_is;
    shared = o.shared;
    commands = keep_commands _ _ _ (emitted_since h) (owners h) s.slots t.slots (same_keeps s.slots t.slots slots) o.commands;
  }
    where
      regroup : add_to (since bytes_out [] h) bs ++ t.port.outgoing ≡ since bytes_out [] h ++ s.port.outgoing
      regroup = ap (λ (z : List ℕ). z ++ t.port.outgoing) (add_is (since bytes_out [] h) bs) ∙ append_assoc (since bytes_out [] h) bs t.port.outgoing ∙ ap (λ (z : List ℕ). since bytes_out [] h ++ z) took

      more_got : Begins (commands_read K h) (lines_read K.as_command (since bytes_out [] h ++ bs))
      more_got = begins_read K.as_command (since bytes_out [] h) bs

  -- ---- all histories
  pub record Matching (first : Meaning) (h : History) (s : State) : Type 0 where
    pub empty_then : first.incoming ≡ []
    pub core : MatchOf K h s
    pub right : HandedRight K h

  hand_step : (first : Meaning) (h : History) (s t : State) (kind : Kind) (l : List ℕ) (r : Read) → Hands K s kind l r t → Order K first h s → Matching first h s → Matching first (handed kind l r ∷ h) t
  hand_step first h s t kind l r hd w o = record { empty_then = o.empty_then; core = both.1; right = ((place.0, both.0), o.right) }
    where
      read_so : ReadSoFar K (since bytes_in [] h) (since shown [] h) s.port.incoming s.unfinished
      read_so = subst (λ (z : List ℕ). ReadSoFar K (since bytes_in z h) (since shown [] h) s.port.incoming s.unfinished) o.empty_then w

      u : List ℕ
      u = left_from [] read_so.consumed

      took : Takes K u s.port.incoming l r t.port.incoming
      took = (takes K L s t kind l r hd u read_so.left).0

      line : List ℕ
      line = left_from u took.front

      place : (count_shown h < length (emitted_since h)) × (text (next_emitted h) ≡ line)
      place = comes_next (since bytes_out [] h) (since bytes_in [] h) (since lines [] h) (since shown [] h) s.port.incoming s.unfinished l r t.port.incoming o.core.emits read_so took

      both : ToldRight h s t kind l r hd line took.stands took.read o.core place.0 (next_emitted h)
      both = step h s t kind l r hd line took.stands took.read o.core place.0 _ refl place.1 (o.core.emits.allowed (count_shown h) place.0)

  pub matching : (first : State) {h : History} {s : State} → Leads K first h s → Honest K first.port h → Matching first.port h s
  matching first (making n) hon = record {
    empty_then = hon.0;
    core = record {
      sent = rw hon.1 (record { read = refl; ended = refl });
      emits = record { begins = ([], refl); cut = refl; ended = refl; allowed = λ j lt. absurd (omega arith) };
      total_is = refl;
      shared = record { few = omega arith; fresh = λ i le. refl; given_is = λ i. refl; done_is = λ i. refl; own = λ k. ([], refl) };
      commands = λ i lt. absurd (omega arith);
    };
    right = tt;
  }
  matching first (emission {h} {s} l w) hon = let o = matching first w hon.1 in record { empty_then = o.empty_then; core = emission_step h s l hon.0 o.core; right = o.right }
  matching first (call {h} {s} c t w (did_refuse e)) hon = let o = matching first w hon in record { empty_then = o.empty_then; core = rw e o.core; right = o.right }
  matching first (call {h} {s} c t w (did_clear v r)) hon = let o = matching first w hon in record { empty_then = o.empty_then; core = keep _ _ s.port.outgoing _ (since lines [] h) _ _ _ _ _ _ s.slots t.port.outgoing t.slots r.port.outgoing (same_keeps s.slots t.slots r.rest.slots) o.core; right = o.right }
  matching first (call {h} {s} c t w (did_submit n m r)) hon = let o = matching first w hon in record { empty_then = o.empty_then; core = submit_step h s t n m r o.core; right = o.right }
  matching first (call {h} {s} c t w (did_dry r)) hon = let o = matching first w hon in record { empty_then = o.empty_then; core = keep _ _ s.port.outgoing _ (since lines [] h) _ _ _ _ _ _ s.slots t.port.outgoing t.slots r.port.outgoing (same_keeps s.slots t.slots r.slots) o.core; right = o.right }
  matching first (call {h} {s} c t w (did_hand k l x r)) hon = hand_step first.port h s t k l x r (order K L first w) (matching first w hon)
  matching first (call {h} {s} c t w (did_settle u n x ok r)) hon = let o = matching first w hon in record { empty_then = o.empty_then; core = keep _ _ s.port.outgoing _ (since lines [] h) _ _ _ _ _ _ s.slots t.port.outgoing t.slots (ap (λ (p : Meaning). p.outgoing) r.port) (settled_keeps (cases_eq u s.link) r) o.core; right = o.right }
    where
      settled_keeps : (u ≡ s.link) ⊎ (u ≡ s.link → ⊥) → Settled s u n x t → (y : ℕ) (p : Pending) → Waits (s.slots y) p → Waits (t.slots y) p
      settled_keeps (inl e) r = settle_keeps s.slots t.slots n (r.here e)
      settled_keeps (inr ne) r = same_keeps s.slots t.slots (r.elsewhere ne).1
  matching first (call {h} {s} c t w (did_reset n r)) hon = let o = matching first w hon in record { empty_then = o.empty_then; core = reset_step h s t n r.port.outgoing o.core; right = o.right }
  matching first (call {h} {s} c t w (did_arrive bytes k r)) hon = let o = matching first w hon.1 in record { empty_then = o.empty_then; core = arrive_step h s t (take k bytes) r.port.outgoing r.rest.slots hon.0 o.core; right = o.right }
  matching first (call {h} {s} c t w (did_depart old new k r)) hon = let o = matching first w hon in record { empty_then = o.empty_then; core = depart_step h s t (take k new) (departed_all s.port t.port old new k r.port) r.rest.slots o.core; right = o.right }

  pub matched : (first s : State) (h : History) → Leads K first h s → Honest K first.port h → Matched K h
  matched first s h w hon = let o = matching first w hon in record { received = got_begins (since bytes_out [] h) s.port.outgoing (since messages [] h) o.core.sent; to_its_ticket = o.right; own_lines = o.core.shared.own }
