-- What writing a message again means for its row.
use Rattle.std.proofs.Common.{◌≡◌, ℕ, ◌-◌, ◌<◌, ◌≤◌, Bool, true, false, cond, leb, List, ◌++◌, length, get_or, take, drop, Some, None, Ok, Err, Option, sym, refl, ap, ◌∙◌, arith}
use Rattle.std.proofs.lemmas.List.{length-append, drop_more, take_rest, take_at}
use Rattle.line.specs.Forms.{Side, is_mark}
use Rattle.line.specs.Lines.{Message, Read, meant, reading}
use Rattle.line.specs.declared.fault.Fault.{Fault}
use Rattle.line.specs.declared.fault.Fault.TheVariants.{TooLong, ShortBuffer}
use Rattle.writer.specs.Canonical.{canonical, is_address, first_formed, formed}
use Rattle.writer.specs.Rewriting.{rewrite_fault, rewrite_answer, rewritten}
use Rattle.writer.proofs.Addresses.{both}
use Rattle.writer.proofs.Repeating.{writes_again}
use Rattle.inspect.specs.Rows.{Kind, unsendable, told, kind_of, side_by, row_of_read, row_by, row_for}

pub has_forms : (side : Side) (line : List ℕ) (m : Message) → meant m ≡ reading side line → formed m ≡ true
has_forms side line m e = (writes_again side line m (sym e)).form

abbrev too_long : Bool → Option Fault
too_long t = cond t None (Some TooLong)

-- a buffer of 1,024 bytes is too short for no line
one_reason : (t : Bool) → cond t (cond t None (Some ShortBuffer)) (Some TooLong) ≡ too_long t
one_reason true = refl
one_reason false = refl

module _ (m : Message) (room : ℕ) (e : formed m ≡ true) (h : room ≡ 1024) where
  reason : rewrite_fault m room ≡ too_long (leb (length (canonical m)) 1024)
  reason =
      let g = both (is_address m.side m.address) _ e in
      let k = both (is_mark m.side m.mark) (first_formed m.side m.fields) g.1 in
      rw (k.0, k.1, h) (one_reason (leb (length (canonical m)) 1024))

  pub refused : (f : Fault) → Err f ≡ rewrite_answer (canonical m) (rewrite_fault m room) → unsendable ≡ row_of_read (meant m)
  refused f a = go (leb (length (canonical m)) 1024) (a ∙ ap (rewrite_answer (canonical m)) reason)
    where
      go : (t : Bool) → Err f ≡ rewrite_answer (canonical m) (too_long t) → unsendable ≡ cond t (told (kind_of m) (canonical m)) unsendable
      go true p = let z : ◌≡◌ {A = ℕ} 0 1 = cc in absurd (omega arith)
      go false p = refl

-- the message's canonical line is at the front of the buffer
record Written (m : Message) (was out : List ℕ) (n : ℕ) : Type 0 where
  fits : leb (length (canonical m)) 1024 ≡ true
  len : length (canonical m) ≡ n
  is : out ≡ canonical m ++ drop (length (canonical m)) was

module _ (m : Message) (was out : List ℕ) (n : ℕ) (e : formed m ≡ true) (h : length was ≡ 1024)
    (a : Ok n ≡ rewrite_answer (canonical m) (rewrite_fault m (length was)))
    (b : out ≡ rewritten (canonical m) was (rewrite_fault m (length was))) where
  written : Written m was out n
  written =
      let r = reason m (length was) e h in
      go (leb (length (canonical m)) 1024) refl (a ∙ ap (rewrite_answer (canonical m)) r) (b ∙ ap (rewritten (canonical m) was) r)
    where
      go : (t : Bool) → leb (length (canonical m)) 1024 ≡ t → Ok n ≡ rewrite_answer (canonical m) (too_long t) → out ≡ rewritten (canonical m) was (too_long t) → Written m was out n
      go true p q o = record { fits = p; len = cc; is = o }
      go false p q o = let z : ◌≡◌ {A = ℕ} 0 1 = cc in absurd (omega arith)

  pub within : n ≤ length out
  within =
      let k = ap (λ (x : List ℕ). length x) written.is ∙ length-append (canonical m) (drop (length (canonical m)) was) in
      omega (arith, k, written.len)

  pub tells : (k : Kind) → k ≡ kind_of m → told k (take (n - 0) out) ≡ row_of_read (meant m)
  tells k is =
      let front : take n out ≡ canonical m = ap (λ (x : List ℕ). take n x) written.is ∙ take_at (canonical m) _ n written.len in
      let zero : n - 0 ≡ n = omega arith in
      rw (written.fits, is, zero, front) refl

-- ---- the first byte and the line behind it
first_and_rest : (s : List ℕ) → 0 < length s → row_for s ≡ row_by (side_by (get_or s 0 0)) (take (length s - 1) (drop 1 s))
first_and_rest s h =
    ap (λ (x : List ℕ). row_for x) (drop_more s 0 0 h) ∙ ap (λ (x : List ℕ). row_by (side_by (get_or s 0 0)) x) (sym (take_rest s 1))

pub row_told : (s : List ℕ) (side : Side) (r : Read) → 0 < length s → Some side ≡ side_by (get_or s 0 0) → r ≡ reading side (take (length s - 1) (drop 1 s)) → row_of_read r ≡ row_for s
row_told s side r h by is =
    ap row_of_read is ∙ ap (λ (o : Option Side). row_by o (take (length s - 1) (drop 1 s))) by ∙ sym (first_and_rest s h)
