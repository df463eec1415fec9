-- Lines as they are begun, added to and closed.
use Rattle.std.proofs.Common.{◌≡◌, ◌≢◌, ℕ, suc, ◌+◌, ◌<◌, ◌≤◌, Bool, true, false, cond, leb, List, [], ◌∷◌, ◌++◌, length, get_or, is_some, Some, None, Err, Option, Result, sym, refl, ap, ◌∙◌, subst, append_assoc, append-nil, arith, length-append, w8, Fits, Bor}
use Rattle.std.proofs.lemmas.Bool.{leb-true, le-leb}
use Rattle.std.specs.List.{AllByRecursion}
use Rattle.escape.specs.Spelling.{spelling}
use Rattle.escape.proofs.Chunks.{Tame, tame_spelling}
use Rattle.line.specs.Forms.{Side, command, answer, Address, every, capital, name_byte, address_of, is_mark, check_of, is_first_field}
use Rattle.line.specs.Lines.{Message}
use Rattle.line.specs.Meanings.{side_of, placed}
use Rattle.line.specs.declared.fault.Fault.{Fault}
use Rattle.line.specs.declared.fault.Fault.TheVariants.{TooLong, BadAddress, BadMark, FirstField, ShortBuffer}
use Rattle.writer.specs.Canonical.{in_two_digits, address_text, ended, body_text, head_text, closed, canonical, sendable}
use Rattle.writer.specs.Laws.{Bytes}
use Rattle.writer.specs.Writing.{address_read, begun, unclosed, Lies, Opened, Closed, Heads, line_head, refusal, line_fault, room_fault, mark_fault, first_given, first_fault, head_fault, begin_fault}
use Rattle.writer.specs.Rewriting.{first_of_both}
use Rattle.writer.specs.declared.head.Head.{Head}
use Rattle.writer.proofs.Addresses.{both, never, address_was, address_short}
use Rattle.writer.proofs.Backs.{tame_first, reads_back}

-- ---- bytes
pub every_byte : (s : List ℕ) → ((i : ℕ) → Fits w8 (get_or s i 0)) → AllByRecursion (λ b. b < 256) s
every_byte [] h = tt
every_byte (b ∷ s) h = ((h 0).fits, every_byte s (λ i. h (suc i)))

tame_bytes : (s : List ℕ) → AllByRecursion Tame s → AllByRecursion (λ b. b < 256) s
tame_bytes [] h = tt
tame_bytes (b ∷ s) h = (omega (arith, h.0.1), tame_bytes s h.1)

-- ---- a first field is short
pub first_short : (side : Side) (f : List ℕ) → is_first_field side f ≡ true → length f ≤ 64
first_short command [] e = omega arith
first_short command (a ∷ s) e =
    let h = both (capital a) _ e in
    let k = both (every name_byte s) (leb (length s) 63) h.1 in
    omega (arith, leb-true (length s) 63 k.1)
first_short answer [] e = omega arith
first_short answer (a ∷ []) e = omega arith
first_short answer (a ∷ b ∷ []) e = omega arith
first_short answer (a ∷ b ∷ c ∷ []) e = omega arith
first_short answer (a ∷ b ∷ c ∷ d ∷ s) e = never e

-- ---- beginning
-- the mark refuses a head, and else the first field
head_by : (side : Side) (a : Address) (mark : ℕ) (first : Bool) → first_of_both (mark_fault side a mark) (first_fault a first) ≡ head_fault side a mark first
head_by side a mark first = go (is_mark side mark)
  where
    go : (p : Bool) → first_of_both (cond p None (Some (BadMark (length (address_text a) + 1)))) (first_fault a first) ≡ cond p (first_fault a first) (Some (BadMark (length (address_text a) + 1)))
    go true = refl
    go false = refl

pub mark_refuses : (side : Side) (a : Address) (mark : ℕ) (first : Bool) (f : Fault) → Some f ≡ mark_fault side a mark → Some f ≡ head_fault side a mark first
mark_refuses side a mark first f e = ap (λ (o : Option Fault). first_of_both o (first_fault a first)) e ∙ head_by side a mark first

pub first_decides : (side : Side) (a : Address) (mark : ℕ) (first : Option (Bor (List ℕ))) (h : Head) → Heads h side a mark → None ≡ mark_fault side a mark
    → first_fault (placed h.address) (first_given (side_of h.side) first) ≡ head_fault side a mark (first_given side first)
first_decides side a mark first h same none =
    ap (λ (x : Side). first_fault (placed h.address) (first_given x first)) same.side_is
    ∙ ap (λ (x : Address). first_fault x (first_given side first)) same.address_is
    ∙ ap (λ (o : Option Fault). first_of_both o (first_fault a (first_given side first))) none
    ∙ head_by side a mark (first_given side first)

-- what a head has where nothing is refused
pub head_forms : (side : Side) (a : Address) (mark : ℕ) (first : Bool) → None ≡ head_fault side a mark first → (is_mark side mark ≡ true) × (first ≡ true)
head_forms side a mark first = go (is_mark side mark) first
  where
    go : (p q : Bool) → None ≡ cond p (cond q None (Some (FirstField (length (address_text a) + 3)))) (Some (BadMark (length (address_text a) + 1))) → (p ≡ true) × (q ≡ true)
    go true true e = (refl, refl)
    go true false e = let z : ◌≡◌ {A = ℕ} 0 1 = cc in absurd (omega arith)
    go false q e = let z : ◌≡◌ {A = ℕ} 0 1 = cc in absurd (omega arith)

pub line_head_is : (h : Head) (side : Side) (a : Address) (mark : ℕ) → Heads h side a mark → line_head h ≡ head_text (address_text a) mark
line_head_is h side a mark same = ap (λ (x : Address). head_text (address_text x) h.mark) same.address_is ∙ ap (λ (k : ℕ). head_text (address_text a) k) same.mark_is

module _ (side : Side) (address first : List ℕ) (mark : ℕ) (a : Address) (read : address_of side address ≡ Some a) where
  text : address_text a ≡ address
  text = (address_was side address a read).text

  same_first : is_first_field side first ≡ true → spelling first ≡ first
  same_first e = tame_spelling first (tame_first side first e)

  -- parts that have their forms make a short line, with its check
  pub head_short : is_first_field side first ≡ true → length address + length first + 7 ≤ 87
  head_short e = omega (arith, address_short side address a read, first_short side first e)

  pub line_short : is_first_field side first ≡ true → length (head_text (address_text a) mark) + length first + 4 ≤ 87
  line_short e = omega (arith, head_short e, ap length text, length-append (address_text a) (47 ∷ mark ∷ 47 ∷ []))

  -- what refuses the head, and else what refuses the length
  begin_by : (n room : ℕ) → n ≡ length (head_text (address_text a) mark) + length first + 4 → first_of_both (head_fault side a mark (is_first_field side first)) (line_fault n room) ≡ begin_fault side address mark first room
  begin_by n room size = rw read (go (is_mark side mark) (is_first_field side first) refl)
    where
      whole : is_first_field side first ≡ true → n ≡ length (head_text address mark ++ ended first) + 3
      whole e = omega (arith, size, length-append (head_text address mark) (ended first), length-append (spelling first) (58 ∷ []), ap length (same_first e), ap (λ (x : List ℕ). length (head_text x mark)) text)

      go : (p q : Bool) → is_first_field side first ≡ q → first_of_both (cond p (cond q None (Some (FirstField (length (address_text a) + 3)))) (Some (BadMark (length (address_text a) + 1)))) (line_fault n room)
          ≡ cond p (cond q (room_fault (length (head_text address mark ++ ended first)) room) (Some (FirstField (length address + 3)))) (Some (BadMark (length address + 1)))
      go true true e = ap (λ (k : ℕ). line_fault k room) (whole e)
      go true false e = ap (λ (x : List ℕ). Some (FirstField (length x + 3))) text
      go false q e = ap (λ (x : List ℕ). Some (BadMark (length x + 1))) text

  pub head_refused : (f : Fault) (room : ℕ) → Some f ≡ head_fault side a mark (is_first_field side first) → Some f ≡ begin_fault side address mark first room
  head_refused f room e =
      let n = length (head_text (address_text a) mark) + length first + 4 in
      ap (λ (o : Option Fault). first_of_both o (line_fault n room)) e ∙ begin_by n room refl

  pub length_decides : (n room : ℕ) → None ≡ head_fault side a mark (is_first_field side first) → n ≡ length (head_text (address_text a) mark) + length first + 4 → line_fault n room ≡ begin_fault side address mark first room
  length_decides n room none size = ap (λ (o : Option Fault). first_of_both o (line_fault n room)) none ∙ begin_by n room size

  pub opened : (was out : List ℕ) (n : ℕ) (h : Head) → Heads h side a mark → None ≡ head_fault side a mark (is_first_field side first) → 0 < n → Lies was ((line_head h ++ first) ++ (58 ∷ [])) out n
      → Opened was (begun side address mark first) out n
  unfolding begun
  opened was out n h same none some lies =
      let form = head_forms side a mark (is_first_field side first) none in
      let line : (line_head h ++ first) ++ (58 ∷ []) ≡ head_text (address_text a) mark ++ (ended first ++ []) =
      append_assoc (line_head h) first (58 ∷ [])
      ∙ ap (λ (x : List ℕ). x ++ (first ++ (58 ∷ []))) (line_head_is h side a mark same)
      ∙ ap (λ (x : List ℕ). head_text (address_text a) mark ++ (x ++ (58 ∷ []))) (sym (same_first form.1))
      ∙ ap (λ (x : List ℕ). head_text (address_text a) mark ++ x) (sym (append-nil (ended first))) in
      subst (λ (o : Option Address). Opened was (record { side = side; address = address_read o; mark = mark; fields = first ∷ [] }) out n) (sym read)
      (record {
        form = rw ((address_was side address a read).form, form.0) form.1;
        bytes = (tame_bytes first (tame_first side first form.1), tt);
        some = some;
        lies = subst (λ (x : List ℕ). Lies was x out n) line lies;
      })

-- a line that begins is not refused for its length
never_refused_long : (side : Side) (address first : List ℕ) (mark room : ℕ) → begin_fault side address mark first room ≢ Some TooLong
never_refused_long side address first mark room = by_read (address_of side address) refl (is_mark side mark) (is_first_field side first) refl
  where
    by_room : (q : Bool) → cond q None (Some ShortBuffer) ≢ Some TooLong
    by_room true e = let z : ◌≡◌ {A = ℕ} 0 1 = cc in absurd (omega arith)
    by_room false e = let z : ◌≡◌ {A = ℕ} 0 1 = cc in absurd (omega arith)

    formed : (a : Address) → address_of side address ≡ Some a → is_first_field side first ≡ true → room_fault (length (head_text address mark ++ ended first)) room ≢ Some TooLong
    formed a read e =
        let same = same_first side address first mark a read e in
        let short : length (head_text address mark ++ ended first) + 3 ≤ 1024 =
        omega (arith, length-append (head_text address mark) (ended first), length-append address (47 ∷ mark ∷ 47 ∷ []), length-append (spelling first) (58 ∷ []), ap length same, head_short side address first mark a read e) in
        rw (le-leb (length (head_text address mark ++ ended first) + 3) 1024 short) (by_room (leb (length (head_text address mark ++ ended first) + 3) room))

    by_read : (o : Option Address) → address_of side address ≡ o → (p q : Bool) → is_first_field side first ≡ q
        → cond (is_some o) (cond p (cond q (room_fault (length (head_text address mark ++ ended first)) room) (Some (FirstField (length address + 3)))) (Some (BadMark (length address + 1)))) (Some BadAddress) ≢ Some TooLong
    by_read None r p q f e = let z : ◌≡◌ {A = ℕ} 0 1 = cc in absurd (omega arith)
    by_read (Some a) r false q f e = let z : ◌≡◌ {A = ℕ} 0 1 = cc in absurd (omega arith)
    by_read (Some a) r true false f e = let z : ◌≡◌ {A = ℕ} 0 1 = cc in absurd (omega arith)
    by_read (Some a) r true true f e = formed a r f e

pub never_too_long : (side : Side) (address first : List ℕ) (mark room : ℕ) (r : Result (Unit {0}) Fault) → refusal r ≡ begin_fault side address mark first room → r ≢ Err TooLong
never_too_long side address first mark room r by e = never_refused_long side address first mark room (sym by ∙ ap refusal e)

-- ---- adding
pub body_more : (fs : List (List ℕ)) (f : List ℕ) → body_text (fs ++ (f ∷ [])) ≡ body_text fs ++ ended f
body_more [] f = append-nil (ended f)
body_more (g ∷ fs) f = ap (λ (x : List ℕ). ended g ++ x) (body_more fs f) ∙ sym (append_assoc (ended g) (body_text fs) (ended f))

pub bytes_more : (fs : List (List ℕ)) (f : List ℕ) → Bytes fs → AllByRecursion (λ b. b < 256) f → Bytes (fs ++ (f ∷ []))
bytes_more [] f h k = (k, tt)
bytes_more (g ∷ fs) f h k = (h.0, bytes_more fs f h.1 k)

-- ---- closing
pub closed_by : (was out new : List ℕ) (m : Message) (n r : ℕ) → n + 3 ≤ 1024 → Opened was m out n → Lies was (closed (unclosed m)) new r → Closed was m new r
closed_by was out new m n r short o lies =
    let check = 47 ∷ in_two_digits (check_of (unclosed m ++ (47 ∷ []))) in
    let fits : leb (length (canonical m)) 1024 ≡ true = le-leb (length (canonical m)) 1024 (omega (arith, length-append (unclosed m) check, o.lies.len)) in
    let sent : sendable m ≡ true = rw o.form fits in
    record { length_of = lies.len; held = lies.held; sent = sent; reads = reads_back m sent o.bytes }
