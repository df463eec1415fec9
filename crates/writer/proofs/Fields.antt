-- Several fields behind references, written one after the other.
use Rattle.std.proofs.Common.{◌≡◌, ℕ, ◌+◌, ◌<◌, ◌≤◌, true, List, [], ◌∷◌, ◌++◌, length, get_or, take, drop, Some, None, Result, false, cond, eqb, append-nil, sym, refl, ap, ◌∙◌, subst, append_assoc, arith, length-append, take-append-drop, Bor}
use Rattle.std.proofs.lemmas.List.{map_more, map-append}
use Rattle.std.proofs.lemmas.Bool.{ne_eqb}
use Rattle.std.specs.List.{AllByRecursion}
use Rattle.escape.specs.Spelling.{spelling}
use Rattle.line.specs.Forms.{Side, is_mark}
use Rattle.line.specs.Lines.{Message}
use Rattle.line.specs.declared.fault.Fault.{Fault}
use Rattle.line.specs.declared.fault.Fault.TheVariants.{ShortBuffer}
use Rattle.writer.specs.Canonical.{ended, body_text, head_text, address_text, is_address, first_formed}
use Rattle.writer.specs.Laws.{Bytes}
use Rattle.writer.specs.Writing.{Lies, Opened, Called, unclosed, with_field, with_fields, Fitted, refusal, line_fault, room_fault, add_fault, all_fault, behind_all}
use Rattle.writer.specs.declared.page.Writer.{Writer}
use Rattle.writer.proofs.Addresses.{both, never}
use Rattle.writer.proofs.Opening.{body_more, bytes_more}

-- ---- one field more
module _ (refs : List (Bor (List ℕ))) (i : ℕ) (d : Bor (List ℕ)) (h : i < length refs) where
  all_more : behind_all (take (i + 1) refs) ≡ behind_all (take i refs) ++ ((get_or refs i d).now ∷ [])
  all_more = map_more (λ (r : Bor (List ℕ)). r.now) refs i d h

  text_more : body_text (behind_all (take (i + 1) refs)) ≡ body_text (behind_all (take i refs)) ++ ended (get_or refs i d).now
  text_more = ap body_text all_more ∙ body_more (behind_all (take i refs)) (get_or refs i d).now

  pub length_more : length (body_text (behind_all (take (i + 1) refs))) ≡ length (body_text (behind_all (take i refs))) + (length (spelling (get_or refs i d).now) + 1)
  length_more = ap length text_more ∙ length-append (body_text (behind_all (take i refs))) (ended (get_or refs i d).now) ∙ ap (λ (n : ℕ). length (body_text (behind_all (take i refs))) + n) (length-append (spelling (get_or refs i d).now) (58 ∷ []))

  pub line_more : (body_text (behind_all (take i refs)) ++ spelling (get_or refs i d).now) ++ (58 ∷ []) ≡ body_text (behind_all (take (i + 1) refs))
  line_more = append_assoc (body_text (behind_all (take i refs))) (spelling (get_or refs i d).now) (58 ∷ []) ∙ sym text_more

  pub all_bytes_more : Bytes (behind_all (take i refs)) → AllByRecursion (λ b. b < 256) (get_or refs i d).now → Bytes (behind_all (take (i + 1) refs))
  all_bytes_more bs b = subst Bytes (sym all_more) (bytes_more (behind_all (take i refs)) (get_or refs i d).now bs b)

-- ---- all of them
body_append : (fs gs : List (List ℕ)) → body_text (fs ++ gs) ≡ body_text fs ++ body_text gs
body_append [] gs = refl
body_append (f ∷ fs) gs = ap (λ (x : List ℕ). ended f ++ x) (body_append fs gs) ∙ sym (append_assoc (ended f) (body_text fs) (body_text gs))

pub no_longer_than_all : (refs : List (Bor (List ℕ))) (i : ℕ) → length (body_text (behind_all (take i refs))) ≤ length (body_text (behind_all refs))
no_longer_than_all refs i =
    let halves : behind_all refs ≡ behind_all (take i refs) ++ behind_all (drop i refs) = ap behind_all (sym (take-append-drop i refs)) ∙ map-append (λ (r : Bor (List ℕ)). r.now) (take i refs) (drop i refs) in
    omega (arith, ap length (ap body_text halves ∙ body_append (behind_all (take i refs)) (behind_all (drop i refs))), length-append (body_text (behind_all (take i refs))) (body_text (behind_all (drop i refs))))

bytes_append : (fs gs : List (List ℕ)) → Bytes fs → Bytes gs → Bytes (fs ++ gs)
bytes_append [] gs h k = k
bytes_append (f ∷ fs) gs h k = (h.0, bytes_append fs gs h.1 k)

first_still : (side : Side) (fs gs : List (List ℕ)) → first_formed side fs ≡ true → first_formed side (fs ++ gs) ≡ true
first_still side [] gs e = never e
first_still side (f ∷ fs) gs e = e

pub added_all : (was out new : List ℕ) (n k : ℕ) (m : Message) (fs : List (List ℕ)) → Bytes fs → 0 < k → Opened was m out n → Lies was (unclosed m ++ body_text fs) new k → Opened was (with_fields m fs) new k
unfolding with_fields
added_all was out new n k m fs hb some o lies =
    let g = both (is_address m.side m.address) _ o.form in
    let h = both (is_mark m.side m.mark) (first_formed m.side m.fields) g.1 in
    let head = head_text (address_text m.address) m.mark in
    let line : unclosed m ++ body_text fs ≡ unclosed (with_fields m fs) = append_assoc head (body_text m.fields) (body_text fs) ∙ ap (λ (x : List ℕ). head ++ x) (sym (body_append m.fields fs)) in
    record {
      form = rw (g.0, h.0) (first_still m.side m.fields fs h.1);
      bytes = bytes_append m.fields fs o.bytes hb;
      some = some;
      lies = subst (λ (x : List ℕ). Lies was x new k) line lies;
    }

-- ---- refusals
-- of the same length, and the same room
pub fault_of : {n room : ℕ} {r : Result (Unit {0}) Fault} → Fitted n room r → (k left : ℕ) → n ≡ k → room ≡ left → refusal r ≡ line_fault k left
fault_of {n = n} {room = room} fitted k left e f = fitted.fault ∙ ap (λ (x : ℕ). line_fault x room) e ∙ ap (λ (x : ℕ). line_fault k x) f

module _ (n room : ℕ) (fs : List (List ℕ)) (some : 0 < n) where
  by_size : all_fault n fs room ≡ room_fault (n + length (body_text fs)) room
  by_size = rw (ne_eqb n 0 (λ e. omega arith))

  pub all_room : None ≡ line_fault (n + length (body_text fs) + 3) room → None ≡ all_fault n fs room
  all_room e = e ∙ sym by_size

-- ---- one field, as several
pub one_field : (a b : Writer) (r : Result (Unit {0}) Fault) (f : List ℕ)
    → Called a b r (all_fault a.len (f ∷ []) (length a.out.now)) false ((was : List ℕ) (m : Message) → Opened was m a.out.now a.len → Opened was (with_fields m (f ∷ [])) b.out.now b.len)
    → Called a b r (add_fault a.len f (length a.out.now)) false ((was : List ℕ) (m : Message) → Opened was m a.out.now a.len → Opened was (with_field m f) b.out.now b.len)
unfolding with_field with_fields
one_field a b r f h = record {
  answer = h.answer ∙ ap (λ (x : List ℕ). cond (eqb a.len 0) (Some ShortBuffer) (room_fault (a.len + length x) (length a.out.now))) (append-nil (ended f));
  state = h.state;
  bare = h.bare;
  lender = h.lender;
}
