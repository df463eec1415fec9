-- The promises can be met: a codec that reads each plain line as one fixed message, and a history with it call by call.
use Rattle.std.proofs.Common.{◌≡◌, ℕ, ◌-◌, min, Bool, true, false, cond, ◌&&◌, eqb, ltb, leb, List, [], ◌∷◌, ◌++◌, length, Some, None, Option, sym, refl, ap, inl, arith}
use Rattle.std.proofs.lemmas.Bool.{and_parts, ltb-true, leb-true, lt-leb, eqb-true, ne_eqb, and_right, and_left}
use Rattle.line.specs.Forms.{Side, command, answer}
use Rattle.line.specs.Lines.{Message, Read, meant, faulty}
use Rattle.reader.specs.Cutting.{bare}
use Rattle.life.specs.Codec.{Codec, Lawful, Plain, no_ends}
use Rattle.port.specs.Port.{Meaning}
use Rattle.life.specs.Answers.{start, single}
use Rattle.life.specs.Calls.{last, answered, answer_line, submitted, dry, handed, settled, arrived, departed, emitted, History}
use Rattle.life.specs.Player.{may_answer, Honest}
use Rattle.life.specs.Link.{Pending, Slot, is_free, is_open, is_answered, State, Same, Put, PortOnly, told_last, was_answered, Leads, making, call, emission, did_submit, did_dry, did_hand, did_settle, did_arrive, did_depart}
use Rattle.life.specs.Possible.{one_command, Possible}

abbrev m0 : Message
m0 = record { side = answer; address = record { device = []; zone = None }; mark = 48; fields = [] }

abbrev plain : List ℕ → Bool
plain l = ltb 0 (length l) && (leb (length l) 1024 && no_ends l)

abbrev reads : List ℕ → Read
reads l = cond (plain l) (meant m0) (faulty 1 1024)

plain_is : (l : List ℕ) → plain l ≡ true → Plain l
plain_is l e = let p = and_parts (ltb 0 (length l)) (leb (length l) 1024 && no_ends l) e in let q = and_parts (leb (length l) 1024) (no_ends l) p.1 in
    record { not_empty = ltb-true 0 (length l) p.0; short = leb-true (length l) 1024 q.0; clean = q.1 }

reads_plain : (l : List ℕ) (m : Message) → reads l ≡ meant m → Plain l
reads_plain l m e = go (plain l) refl
  where
    go : (v : Bool) → plain l ≡ v → Plain l
    go true q = plain_is l q
    go false q = let f : faulty 1 1024 ≡ meant m = rw q at e in let z : ◌≡◌ {A = ℕ} 0 1 = cc in absurd (omega arith)

empty_list : {X : Type 0} → List X → Bool
empty_list [] = true
empty_list (x ∷ xs) = false

is_none : Option ℕ → Bool
is_none None = true
is_none (Some n) = false

is_answer : Side → Bool
is_answer command = false
is_answer answer = true

nil_is : {X : Type 0} (xs : List X) → empty_list xs ≡ true → xs ≡ []
unfolding empty_list
nil_is [] e = refl
nil_is (x ∷ xs) e = let z : ◌≡◌ {A = ℕ} 0 1 = cc in absurd (omega arith)

none_is : (o : Option ℕ) → is_none o ≡ true → o ≡ None
unfolding is_none
none_is None e = refl
none_is (Some n) e = let z : ◌≡◌ {A = ℕ} 0 1 = cc in absurd (omega arith)

answer_is : (s : Side) → is_answer s ≡ true → s ≡ answer
unfolding is_answer
answer_is command e = let z : ◌≡◌ {A = ℕ} 0 1 = cc in absurd (omega arith)
answer_is answer e = refl

is_m0 : Message → Bool
is_m0 m = is_answer m.side && (empty_list m.address.device && (is_none m.address.zone && (eqb m.mark 48 && empty_list m.fields)))

same_m0 : (m : Message) → is_m0 m ≡ true → m0 ≡ m
unfolding is_m0
same_m0 m e =
    let a = and_parts (is_answer m.side) _ e in
    let b = and_parts (empty_list m.address.device) _ a.1 in
    let c = and_parts (is_none m.address.zone) _ b.1 in
    let d = and_parts (eqb m.mark 48) (empty_list m.fields) c.1 in
    λ i. record {
      side = sym (answer_is m.side a.0) i;
      address = record { device = sym (nil_is m.address.device b.0) i; zone = sym (none_is m.address.zone c.0) i };
      mark = sym (eqb-true m.mark 48 d.0) i;
      fields = sym (nil_is m.fields d.1) i;
    }

abbrev toy : Codec
toy = record {
  as_answer = reads;
  as_command = reads;
  canonical = λ m. 65 ∷ [];
  sendable = is_m0;
  same_address = λ a b. true;
  is_browse = λ m. false;
  okay = λ m. true;
  overview = λ m. None;
  result = λ m. None;
}

lawful : Lawful toy
lawful = record {
  too_long = λ l lt. rw (and_right (ltb 0 (length l)) (leb (length l) 1024 && no_ends l) (and_left (leb (length l) 1024) (no_ends l) (lt-leb (length l) 1024 lt)));
  answer_plain = reads_plain;
  canonical_plain = λ m e. record { not_empty = omega arith; short = omega arith; clean = refl };
  canonical_reads = λ m e. ap meant (same_m0 m e);
}

abbrev port : List ℕ → List ℕ → ℕ → ℕ → Meaning
port i o room_in room_out = record { incoming = i; outgoing = o; room_in = room_in; room_out = room_out; heeds = false; clear = true }

-- only the number 0 is not free
abbrev with_slot : Slot → ℕ → Slot
with_slot x n = cond (eqb n 0) x is_free

abbrev state : Meaning → Slot → State
state p x = record { port = p; link = 7; unfinished = bare; slots = with_slot x; recent = 0 }

put_0 : (x y : Slot) → Put (with_slot x) 0 y (with_slot y)
put_0 x y = record { here = refl; others = λ i ne. rw (ne_eqb i 0 ne) }

abbrev waiting : Pending
waiting = record { address = record { device = []; zone = None }; browse = false; place = start }

abbrev s0 : State
s0 = record { port = port [] [] 100 100; link = 7; unfinished = bare; slots = with_slot is_free; recent = 9 }

all_free : (n : ℕ) → with_slot is_free n ≡ is_free
all_free n = elim (eqb n 0) as (λ v. cond v is_free is_free ≡ is_free) [ true ↦ refl | false ↦ refl ]

same : {s t : State} → t.link ≡ s.link → t.unfinished ≡ s.unfinished → Same s.slots t.slots → t.recent ≡ s.recent → PortOnly s t
same l u x r = record { link = l; unfinished = u; slots = x; recent = r }

-- ---- the calls one by one
abbrev s1 : State
s1 = state (port [] (65 ∷ 13 ∷ []) 100 98) (is_open waiting)

one_submit : Leads toy s0 (submitted 0 m0 ∷ []) s1
unfolding is_m0 empty_list is_none is_answer
one_submit = call (submitted 0 m0) s1 (making (record { unfinished = refl; slots = all_free; recent = refl }))
    (did_submit 0 m0 (record {
      sendable = refl;
      number = record { free = refl; far = 0; there = refl; first = λ i lt e. omega arith };
      mark = refl;
      port = record { count = refl; incoming = refl; outgoing = refl; room_in = refl; room_out = refl; heeds = refl; clear = refl };
      link = refl;
      unfinished = refl;
      slots = put_0 is_free (is_open waiting);
      recent = refl;
    }))

abbrev s2 : State
s2 = state (port [] [] 100 100) (is_open waiting)

sent_0 : Leads toy s0 (emitted (answer_line 0 (65 ∷ []) 13) ∷ departed (65 ∷ 13 ∷ []) ∷ submitted 0 m0 ∷ []) s2
sent_0 = emission (answer_line 0 (65 ∷ []) 13) (call (departed (65 ∷ 13 ∷ [])) s2 one_submit
    (did_depart (0 ∷ 0 ∷ 0 ∷ []) (65 ∷ 13 ∷ 0 ∷ []) 2 (record {
      port = record { count = refl; buffer = refl; incoming = refl; outgoing = refl; room_in = omega arith; room_out = omega arith; heeds = refl; clear = refl };
      rest = same refl refl (λ n. refl) refl;
    })))

-- one byte arrives
abbrev s3 : List ℕ → ℕ → State
s3 i room = state (port i [] room 100) (is_open waiting)

one_arrives : (i : List ℕ) (b : ℕ) (room : ℕ) → min 1 room ≡ 1 → {h : History} → Leads toy s0 h (s3 i room) → Leads toy s0 (arrived (b ∷ []) ∷ h) (s3 (i ++ (b ∷ [])) (room - 1))
one_arrives i b room e w = call (arrived (b ∷ [])) (s3 (i ++ (b ∷ [])) (room - 1)) w
    (did_arrive (b ∷ []) 1 (record {
      port = record { count = sym e; incoming = refl; outgoing = refl; room_in = refl; room_out = refl; heeds = refl; clear = refl };
      rest = same refl refl (λ n. refl) refl;
    }))

abbrev s5 : State
s5 = state (port [] [] 100 100) is_answered

told_0 : Leads toy s0 (handed (last 0) (65 ∷ []) (meant m0) ∷ arrived (13 ∷ []) ∷ arrived (65 ∷ []) ∷ emitted (answer_line 0 (65 ∷ []) 13) ∷ departed (65 ∷ 13 ∷ []) ∷ submitted 0 m0 ∷ []) s5
told_0 = call (handed (last 0) (65 ∷ []) (meant m0)) s5 (one_arrives (65 ∷ []) 13 99 refl (one_arrives [] 65 100 refl sent_0))
    (did_hand (last 0) (65 ∷ []) (meant m0) (record {
      held = record { kept = 65 ∷ []; over = false };
      cut = refl;
      stands = refl;
      read = refl;
      told = told_last m0 0 waiting refl (omega arith) refl refl refl (put_0 (is_open waiting) is_answered);
      port = record { outgoing = refl; room_in = omega arith; room_out = omega arith; heeds = refl; clear = refl };
      link = refl;
      recent = refl;
    }))

abbrev s6 : State
s6 = state (port [] [] 100 100) is_free

life : Leads toy s0 (one_command m0) s6
life = call dry s6
    (call (settled 7 0 answered) s6 told_0
    (did_settle 7 0 answered (inl (omega arith)) (record { here = λ e. was_answered refl (put_0 is_answered is_free); elsewhere = λ ne. absurd (ne refl); port = refl; link = refl; unfinished = refl; recent = refl })))
    (did_dry (record {
      cut = refl;
      incoming = refl;
      port = record { outgoing = refl; room_in = omega arith; room_out = omega arith; heeds = refl; clear = refl };
      link = refl;
      slots = λ n. refl;
      recent = refl;
    }))

player : Honest toy s0.port (one_command m0)
player = (([], refl), (((13 ∷ []), refl), (may_answer 0 (65 ∷ []) 13 m0 m0 [] refl (omega arith) refl refl refl refl (single (65 ∷ []) m0 refl refl), (refl, refl))))

pub possible : Possible
possible = (toy, lawful, m0, s0, s6, (life, player))
