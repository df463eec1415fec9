-- A submit, step by step: its line, the reasons to refuse it, and what an accepted one does.
use Rattle.std.proofs.Common.{◌≡◌, ℕ, ◌+◌, ◌%◌, ◌<◌, ◌≤◌, min, true, List, [], ◌∷◌, ◌++◌, length, take, drop, set, Ok, Err, sym, ap, ◌∙◌, subst, arith, length-append, length-drop, le-leb}
use Rattle.std.proofs.lemmas.List.{take_more_set, take_at, length_push}
use Rattle.escape.specs.Tokens.{digit}
use Rattle.line.specs.Lines.{Read}
use Rattle.line.specs.Meanings.{told}
use Rattle.line.specs.declared.fault.Fault.{Fault}
use Rattle.line.specs.declared.fault.Fault.TheVariants.{NoRoom}
use Rattle.port.specs.Port.{Meaning, Written}
use Rattle.writer.specs.Canonical.{canonical}
use Rattle.life.specs.Link.{State, is_open, FirstFree, Put, ended_line}
use Rattle.reader.specs.Unfinished.{part_of}
use Rattle.numbers.specs.Ours.{ours}
use Rattle.numbers.specs.Slots.{pending_of}
use Rattle.numbers.specs.Ten.{slots_of}
use Rattle.request.specs.Requests.{request_read}
use Rattle.request.specs.Laws.{marked}
use Rattle.request.specs.Preparing.{Prepares, Outcome}
use Rattle.request.specs.declared.preparing.Prepared.{Prepared}
use Rattle.request.proofs.Judging.{untold}
use Rattle.link.specs.Meanings.{state}
use Rattle.link.specs.Submitting.{Accepts, Why, unreadable, no_room, LineReady}
use Rattle.link.specs.declared.inner.Core.{Core}

-- ---- the line
-- a byte behind what lies at the front of a buffer
front_more : (l was : List ℕ) (n b : ℕ) → n ≡ length l → length l < length was → take (n + 1) (set (l ++ drop (length l) was) n b) ≡ l ++ (b ∷ [])
front_more l was n b e h =
    let some : n < length (l ++ drop (length l) was) = omega (arith, length-append l (drop (length l) was), length-drop (length l) was) in
    take_more_set (l ++ drop (length l) was) n b some ∙ ap (λ (x : List ℕ). x ++ (b ∷ [])) (take_at l (drop (length l) was) n (sym e))

pub ends : (read : Read) (d : ℕ) (was out : List ℕ) (p : Prepared) → Prepares read d was out p → 1025 ≤ length was → LineReady read d (set out p.length 13) p
ends read d was out p w room =
    let m = w.message in
    let l = w.lies in
    record {
      message = m;
      means = w.means;
      mark = w.mark;
      sends = w.sends;
      length_of = l.length_of;
      short = omega (arith, l.length_of, l.short);
      front = ap (λ (x : List ℕ). take (p.length + 1) (set x p.length 13)) l.held ∙ front_more (canonical m) was p.length 13 l.length_of (omega (arith, l.short));
      pending = l.pending;
    }

module _ (address body was out : List ℕ) (n : ℕ) (few : n < 10) (room : 1025 ≤ length was) where
  same : n % 10 ≡ n
  same = omega arith

  pub ready : (p : Prepared) → (1024 ≤ length was → Outcome (request_read address (48 + n % 10) body) (48 + n % 10) was out (Ok p)) → LineReady (request_read address (48 + n) body) (48 + n) (set out p.length 13) p
  ready p w = subst (λ (k : ℕ). LineReady (request_read address (48 + k) body) (48 + k) (set out p.length 13) p) same (ends (request_read address (48 + n % 10) body) (48 + n % 10) was out p (w (omega arith)) room)

  pub unready : (f : Fault) → (1024 ≤ length was → Outcome (request_read address (48 + n % 10) body) (48 + n % 10) was out (Err f)) → told f ≡ request_read address (48 + n) body
  unready f w = subst (λ (k : ℕ). told f ≡ request_read address (48 + k) body) same (w (omega arith)).0

-- ---- refusals
is_digit : (n : ℕ) → n < 10 → digit (48 + n) ≡ true
is_digit n h = rw (le-leb 48 (48 + n) (omega arith)) (le-leb (48 + n) 57 (omega arith))

pub refused : (s : State) (address body : List ℕ) (n : ℕ) (f : Fault) → n < 10 → told f ≡ request_read address (48 + n) body → Why s address body f
refused s address body n f h e = unreadable f (λ d is. untold address body (48 + n) d (is_digit n h) is ∙ ap (marked d) (sym e))

pub full : (s : State) (address body : List ℕ) (n room : ℕ) (p : Prepared) (out : List ℕ) → FirstFree s.slots s.recent n → LineReady (request_read address (48 + n) body) (48 + n) out p
    → room ≡ s.port.room_out → room < p.length + 1 → Why s address body NoRoom
full s address body n room p out free w is h = no_room n w.message free w.means (omega (arith, w.length_of))

-- ---- accepted
written_is : (a z : Meaning) (l line : List ℕ) → l ≡ line → length line ≤ a.room_out → Written a z l (min (length l) a.room_out) → Written a z line (length line)
written_is a z l line e fits w =
    let k : min (length line) a.room_out ≡ length line = omega arith in
    subst (λ (n : ℕ). Written a z line n) k (subst (λ (x : List ℕ). Written a z x (min (length x) a.room_out)) e w)

pub accepted : (a z : Meaning) (core new : Core) (address body out : List ℕ) (n room : ℕ) (p : Prepared)
    → n < 10 → FirstFree (slots_of core.numbers) core.numbers.recent n → LineReady (request_read address (48 + n) body) (48 + n) out p
    → room ≡ a.room_out → p.length + 1 ≤ room
    → Written a z (take (p.length + 1) out) (min (length (take (p.length + 1) out)) a.room_out)
    → Put (slots_of core.numbers) n (is_open (pending_of p.pending)) (slots_of new.numbers)
    → new.numbers.recent ≡ n → new.number ≡ core.number → new.unfinished ≡ core.unfinished
    → Accepts (state a core) address body new.number n (state z new)
accepted a z core new address body out n room p few free w is fits wrote slots recent link unfinished =
    let m = w.message in
    let size : length (ended_line ours m) ≡ p.length + 1 = length_push (canonical m) 13 ∙ ap (λ (k : ℕ). k + 1) (sym w.length_of) in
    record {
      message = m;
      means = w.means;
      submits = record {
        sendable = w.sends;
        number = free;
        mark = w.mark;
        port = written_is a z (take (p.length + 1) out) (ended_line ours m) w.front (omega (arith, size)) wrote;
        link = link;
        unfinished = ap part_of unfinished;
        slots = rw (sym w.pending) slots;
        recent = recent;
      };
      of_link = link;
    }
