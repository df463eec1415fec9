-- Bytes put behind those that lie at the front of a buffer, and the line that they make.
use Rattle.std.proofs.Common.{◌≡◌, ℕ, ◌+◌, ◌/◌, ◌%◌, ◌<◌, ◌≤◌, true, false, leb, List, [], ◌∷◌, ◌++◌, length, take, drop, Some, None, sym, ap, ◌∙◌, subst, append_assoc, arith, length-append, length-drop, drop-drop, take_at, drop_at}
use borrow.Rule.Slice.PartMut.{put_mid}
use Rattle.std.proofs.lemmas.Bool.{le-leb, lt-leb, leb-true, leb-false}
use Rattle.numeral.specs.Numbers.{in_digits}
use Rattle.escape.specs.Resolving.{fitting, written}
use Rattle.line.specs.Forms.{check_of}
use Rattle.writer.specs.Canonical.{in_two_digits, head_text, closed}
use Rattle.writer.specs.Writing.{Lies}
use Rattle.request.specs.Requests.{composed}

pub lies_put : (was l out bs ys : List ℕ) (at k : ℕ) → at + length bs ≤ length out → ys ≡ bs → k ≡ length bs → Lies was l out at → Lies was (l ++ bs) (put_mid at k out ys) (at + length bs)
lies_put was l out bs ys at k h same size o =
    let len : length l ≡ at = sym o.len in
    let rest = drop (length (l ++ bs)) was in
    let front : take at out ≡ l = ap (take at) o.held ∙ take_at l (drop (length l) was) at len in
    let back : drop at out ≡ drop (length l) was = ap (drop at) o.held ∙ drop_at l (drop (length l) was) at len in
    let sum = length-append l bs in
    let here : length l + k ≡ length (l ++ bs) = omega arith in
    let behind : drop k (drop at out) ≡ rest = ap (drop k) back ∙ drop-drop k (length l) was ∙ ap (λ (n : ℕ). drop n was) here in
    let held : put_mid at k out ys ≡ (l ++ bs) ++ rest =
    ap (λ (x : List ℕ). x ++ (ys ++ drop k (drop at out))) front ∙ ap (λ (x : List ℕ). l ++ (x ++ drop k (drop at out))) same
    ∙ ap (λ (x : List ℕ). l ++ (bs ++ x)) behind ∙ sym (append_assoc l bs rest) in
    record {
      len = omega arith;
      held = held;
      room = ap length held ∙ length-append (l ++ bs) rest ∙ omega (arith, length-drop (length (l ++ bs)) was, o.room);
    }

pub in_two : (n : ℕ) → n < 100 → in_digits 2 n ≡ in_two_digits n
unfolding in_digits
in_two n h =
    let tens : n / 10 % 10 ≡ n / 10 = omega arith in
    let units : n / 1 % 10 ≡ n % 10 = omega arith in
    cc

-- the slash, and behind it the two digits of what was summed
pub lies_checked : (was l out new ys : List ℕ) (at n : ℕ) → ys ≡ in_two_digits (check_of (take at out)) → Lies was (l ++ (47 ∷ [])) out at → Lies was ((l ++ (47 ∷ [])) ++ ys) new n → Lies was (closed l) new n
lies_checked was l out new ys at n two o done =
    let line : take at out ≡ l ++ (47 ∷ []) = ap (take at) o.held ∙ take_at (l ++ (47 ∷ [])) _ at (sym o.len) in
    let text : (l ++ (47 ∷ [])) ++ ys ≡ closed l = ap (λ (x : List ℕ). (l ++ (47 ∷ [])) ++ x) two ∙ append_assoc l (47 ∷ []) (in_two_digits (check_of (take at out))) ∙ ap (λ (x : List ℕ). l ++ (47 ∷ in_two_digits (check_of x))) line in
    subst (λ (x : List ℕ). Lies was x new n) text done

-- ---- the whole line
pub composed_length : (a b : List ℕ) (d : ℕ) → length (composed a d b) ≡ length a + length b + 6
composed_length a b d =
    let l = head_text a d ++ b in
    omega (arith, length-append l (47 ∷ in_two_digits (check_of (l ++ (47 ∷ [])))), length-append (head_text a d) b, length-append a (47 ∷ d ∷ 47 ∷ []))

module _ (a b was : List ℕ) (d : ℕ) (room : length was ≡ 1024) where
  pub too_long : false ≡ leb (length a + length b + 6) 1024 → (None ≡ fitting (composed a d b) 1024) × (was ≡ written (composed a d b) was)
  too_long e =
      let h = leb-false (length a + length b + 6) 1024 (sym e) in
      let n = composed_length a b d in
      (rw (lt-leb (length (composed a d b)) 1024 (omega arith)), rw (lt-leb (length (composed a d b)) (length was) (omega arith)))

  pub fits : (out : List ℕ) (n : ℕ) → true ≡ leb (length a + length b + 6) 1024 → Lies was (composed a d b) out n → (Some n ≡ fitting (composed a d b) 1024) × (out ≡ written (composed a d b) was)
  fits out n e o =
      let h = leb-true (length a + length b + 6) 1024 (sym e) in
      let k = composed_length a b d in
      let some : Some n ≡ Some (length (composed a d b)) = ap (λ (i : ℕ). Some i) o.len in
      (some ∙ rw (le-leb (length (composed a d b)) 1024 (omega arith)), o.held ∙ rw (le-leb (length (composed a d b)) (length was) (omega arith)))
