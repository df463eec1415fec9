-- A line that grows at the front of a buffer, and how much of it a field is.
use Rattle.std.proofs.Common.{◌≡◌, ℕ, ◌+◌, ◌<◌, ◌≤◌, List, [], ◌∷◌, ◌++◌, length, get_or, take, drop, sym, refl, ap, ◌∙◌, subst, append_assoc, append-nil, arith, length-append, length-drop, take-append-drop, drop-drop, take_at, drop_at}
use borrow.Rule.Slice.PartMut.{put_mid}
use Rattle.std.proofs.lemmas.List.{take_more}
use Rattle.escape.specs.Spelling.{spelled, spelling}
use Rattle.line.specs.Forms.{check_of}
use Rattle.writer.specs.Canonical.{in_two_digits, closed}
use Rattle.writer.specs.Writing.{Lies, HasRoom, Pushed}
use Rattle.writer.specs.declared.page.Writer.{Writer}

pub lies_none : (was : List ℕ) → Lies was [] was 0
lies_none was = record { len = refl; held = refl; room = refl }

pub lies_put : (was l out bs ys : List ℕ) (at k : ℕ) → at + length bs ≤ length out → ys ≡ bs → k ≡ length bs → Lies was l out at → Lies was (l ++ bs) (put_mid at k out ys) (at + length bs)
lies_put was l out bs ys at k h same size o =
    let len : length l ≡ at = sym o.len in
    let rest = drop (length (l ++ bs)) was in
    let front : take at out ≡ l = ap (take at) o.held ∙ take_at l (drop (length l) was) at len in
    let back : drop at out ≡ drop (length l) was = ap (drop at) o.held ∙ drop_at l (drop (length l) was) at len in
    let sum = length-append l bs in
    let here : length l + k ≡ length (l ++ bs) = omega arith in
    let behind : drop k (drop at out) ≡ rest = ap (drop k) back ∙ drop-drop k (length l) was ∙ ap (λ (n : ℕ). drop n was) here in
    let held : put_mid at k out ys ≡ (l ++ bs) ++ rest =
    ap (λ (x : List ℕ). x ++ (ys ++ drop k (drop at out))) front ∙ ap (λ (x : List ℕ). l ++ (x ++ drop k (drop at out))) same
    ∙ ap (λ (x : List ℕ). l ++ (bs ++ x)) behind ∙ sym (append_assoc l bs rest) in
    record {
      len = omega arith;
      held = held;
      room = ap length held ∙ length-append (l ++ bs) rest ∙ omega (arith, length-drop (length (l ++ bs)) was, o.room);
    }

-- the slash, and behind it the two digits of what was summed
pub lies_checked : (was l out new ys : List ℕ) (at n : ℕ) → ys ≡ in_two_digits (check_of (take at out)) → at ≡ length (l ++ (47 ∷ [])) → Lies was (l ++ (47 ∷ [])) out at → Lies was ((l ++ (47 ∷ [])) ++ ys) new n
    → Lies was (closed l) new n
lies_checked was l out new ys at n two len o done =
    let line : take at out ≡ l ++ (47 ∷ []) = ap (take at) o.held ∙ take_at (l ++ (47 ∷ [])) _ at (sym len) in
    let text : (l ++ (47 ∷ [])) ++ ys ≡ closed l = ap (λ (x : List ℕ). (l ++ (47 ∷ [])) ++ x) two ∙ append_assoc l (47 ∷ []) (in_two_digits (check_of (take at out))) ∙ ap (λ (x : List ℕ). l ++ (47 ∷ in_two_digits (check_of x))) line in
    subst (λ (x : List ℕ). Lies was x new n) text done

-- ---- bytes pushed one after another
pub pushed_both : (a b c : Writer) (s t : List ℕ) → Pushed a b s → Pushed b c t → Pushed a c (s ++ t)
pushed_both a b c s t p q = record {
  len = omega (arith, length-append s t);
  room = q.room ∙ p.room;
  lies = λ was l o. subst (λ (x : List ℕ). Lies was x c.out.now c.len) (append_assoc l s t) (q.lies was (l ++ s) (p.lies was l o));
  lender = q.lender ∙ p.lender;
}

-- one more of the pieces that make a whole
pub piece_more : (a b c : Writer) (done piece left whole : List ℕ) → done ++ (piece ++ left) ≡ whole → Pushed a b done → Pushed b c piece → (x : List ℕ) × (x ++ left ≡ whole) × Pushed a c x
piece_more a b c done piece left whole e p q = (done ++ piece, append_assoc done piece left ∙ e, pushed_both a b c done piece p q)

-- what more is pushed, where both together have room
pub room_left : (a b : Writer) (s : List ℕ) (n k : ℕ) → HasRoom a n → Pushed a b s → length s + k ≤ n → HasRoom b k
room_left a b s n k h p e = record { buffer = omega arith; line = omega arith }

-- ---- a field as it is spelled
pub spelling_append : (xs ys : List ℕ) → spelling (xs ++ ys) ≡ spelling xs ++ spelling ys
spelling_append [] ys = refl
spelling_append (x ∷ xs) ys = ap (λ (z : List ℕ). spelled x ++ z) (spelling_append xs ys) ∙ sym (append_assoc (spelled x) (spelling xs) (spelling ys))

pub spelling_more : (bs : List ℕ) (i : ℕ) → i < length bs → spelling (take (i + 1) bs) ≡ spelling (take i bs) ++ spelled (get_or bs i 0)
spelling_more bs i h = ap spelling (take_more bs i 0 h) ∙ spelling_append (take i bs) (get_or bs i 0 ∷ []) ∙ ap (λ (z : List ℕ). spelling (take i bs) ++ z) (append-nil (spelled (get_or bs i 0)))

-- what is spelled so far is no longer than the whole
pub within : (bs : List ℕ) (i : ℕ) → length (spelling (take i bs)) ≤ length (spelling bs)
within bs i = omega (arith, ap length (ap spelling (sym (take-append-drop i bs)) ∙ spelling_append (take i bs) (drop i bs)), length-append (spelling (take i bs)) (spelling (drop i bs)))

pub longer : (bs : List ℕ) (i : ℕ) → i < length bs → length (spelling (take (i + 1) bs)) ≡ length (spelling (take i bs)) + length (spelled (get_or bs i 0))
longer bs i h = ap length (spelling_more bs i h) ∙ length-append (spelling (take i bs)) (spelled (get_or bs i 0))
