-- The kind of a line by its mark.
use Rattle.std.proofs.Common.{◌≡◌, ℕ, ◌+◌, ◌-◌, ◌<◌, Bool, true, false, cond, eqb, leb, List, Some, None, Option, sym, refl, ap, ◌∙◌, subst, arith}
use Rattle.std.proofs.lemmas.Bool.{eqb-true, leb-true}
use Rattle.escape.specs.Tokens.{digit}
use Rattle.line.specs.Forms.{answer, is_mark}
use Rattle.line.specs.Lines.{Message, Read, meant, faulty}
use Rattle.line.specs.Meanings.{told}
use Rattle.line.specs.declared.fault.Fault.{Fault}
use Rattle.reader.specs.Cutting.{Part, whole}
use Rattle.life.specs.Codec.{read_part}
use Rattle.life.specs.Calls.{Kind as Told-kind}
use Rattle.life.specs.Calls.{fault}
use Rattle.life.specs.Link.{Told, told_fault, told_event, told_notice, told_unknown, told_elsewhere, told_misplaced, told_more, told_last, told_late, told_late_last}
use Rattle.life.specs.Link.{Slot as Standing}
use Rattle.numbers.specs.Ours.{as_answer, ours}
use Rattle.link.specs.declared.pumped.Kind.{Kind}
use Rattle.link.specs.declared.pumped.Kind.TheVariants.{Fault as FaultKind, Event, Notice, Stray, Misplaced, More, Last, Late, LateLast}
use Rattle.link.specs.Meanings.{kind_of, read_told}
use Rattle.link.specs.Steps.{digit_number, without_number, line_read, ToldAs}
use Rattle.link.proofs.Marks.{message_marked}

-- a number told by a mark
pub record Numbered (mark n : ℕ) : Type 0 where
  pub is : mark ≡ 48 + n
  pub few : n < 10

pub numbered : (mark n : ℕ) → digit_number mark ≡ Some n → Numbered mark n
numbered mark n e = go (leb 48 mark) (leb mark 57) refl refl
  where
    go : (v w : Bool) → leb 48 mark ≡ v → leb mark 57 ≡ w → Numbered mark n
    go true true p q =
        let x = leb-true 48 mark p in
        let y = leb-true mark 57 q in
        let f : Some (mark - 48) ≡ Some n = rw (p, q) at e in
        let z : mark - 48 ≡ n = cc in
        record { is = omega arith; few = omega arith }
    go true false p q = let f : None ≡ Some n = rw (p, q) at e in let z : ◌≡◌ {A = ℕ} 0 1 = cc in absurd (omega arith)
    go false w p q = let f : None ≡ Some n = rw p at e in let z : ◌≡◌ {A = ℕ} 0 1 = cc in absurd (omega arith)

pub tells_numbered : (m : Message) (b a : ℕ → Standing) (j k : Told-kind) (x n : ℕ) (o : Option ℕ) → x ≡ m.mark → o ≡ digit_number x → o ≡ Some n
    → (m.mark ≡ 48 + n → n < 10 → Told ours b a (meant m) j) → k ≡ j → Told ours b a (meant m) k
tells_numbered m b a j k x n o is found some t e = let by = numbered x n (sym found ∙ some) in rw e (t (sym is ∙ by.is) by.few)

-- ---- another mark
unnumbered : (m : Message) (b : ℕ → Standing) → is_mark answer m.mark ≡ true → digit_number m.mark ≡ None → Told ours b b (meant m) (without_number m.mark)
unnumbered m b marked none = go (digit m.mark) (eqb m.mark 33) (eqb m.mark 63) refl refl refl
  where
    go : (u v w : Bool) → digit m.mark ≡ u → eqb m.mark 33 ≡ v → eqb m.mark 63 ≡ w → Told ours b b (meant m) (without_number m.mark)
    go true v w p q r = let f : Some (m.mark - 48) ≡ None = rw p at none in let z : ◌≡◌ {A = ℕ} 0 1 = cc in absurd (omega arith)
    go false true w p q r = rw q (told_event m (eqb-true m.mark 33 q) (λ i. refl))
    go false false true p q r = rw q (told_notice m (eqb-true m.mark 63 r) (λ i. refl))
    go false false false p q r = let f : false ≡ true = rw (p, q, r) at marked in let z : ◌≡◌ {A = ℕ} 0 1 = cc in absurd (omega arith)

pub tells_unnumbered : (m : Message) (b : ℕ → Standing) (k : Told-kind) (x : ℕ) (o : Option ℕ) → is_mark answer m.mark ≡ true → x ≡ m.mark
    → o ≡ digit_number x → o ≡ None → k ≡ without_number x → Told ours b b (meant m) k
tells_unnumbered m b k x o marked is found none e =
    subst (Told ours b b (meant m)) (sym (e ∙ ap without_number is)) (unnumbered m b marked (ap digit_number (sym is) ∙ sym found ∙ none))

-- ---- a line that could be read is read again from the buffer
told_not_fault : (b a : ℕ → Standing) (m : Message) → Told ours b a (meant m) fault → ⊥
told_not_fault b a m t = go (meant m) fault t refl refl
  where
    go : (r : Read) (k : Told-kind) → Told ours b a r k → r ≡ meant m → k ≡ fault → ⊥
    go r k (told_fault n p s) e f = let z : ◌≡◌ {A = ℕ} 0 1 = cc in omega arith
    go r k (told_event x y s) e f = let z : ◌≡◌ {A = ℕ} 0 1 = cc in omega arith
    go r k (told_notice x y s) e f = let z : ◌≡◌ {A = ℕ} 0 1 = cc in omega arith
    go r k (told_unknown x n y z i s) e f = let z : ◌≡◌ {A = ℕ} 0 1 = cc in omega arith
    go r k (told_elsewhere x n p y z w at s) e f = let z : ◌≡◌ {A = ℕ} 0 1 = cc in omega arith
    go r k (told_misplaced x n p y z w at c s) e f = let z : ◌≡◌ {A = ℕ} 0 1 = cc in omega arith
    go r k (told_more x n p q y z w at c s) e f = let z : ◌≡◌ {A = ℕ} 0 1 = cc in omega arith
    go r k (told_last x n p y z w at c s) e f = let z : ◌≡◌ {A = ℕ} 0 1 = cc in omega arith
    go r k (told_late x n p q y z w at c s) e f = let z : ◌≡◌ {A = ℕ} 0 1 = cc in omega arith
    go r k (told_late_last x n p y z w at c s) e f = let z : ◌≡◌ {A = ℕ} 0 1 = cc in omega arith

pub read_again : (b a : ℕ → Standing) (m : Message) (k : Kind) (l : List ℕ) → Told ours b a (meant m) (kind_of k) → read_told k l ≡ as_answer l
read_again b a m (FaultKind f) l t = absurd (told_not_fault b a m t)
read_again b a m Event l t = refl
read_again b a m Notice l t = refl
read_again b a m Stray l t = refl
read_again b a m Misplaced l t = refl
read_again b a m (More n) l t = refl
read_again b a m (Last n) l t = refl
read_again b a m (Late n) l t = refl
read_again b a m (LateLast n) l t = refl

-- ---- a line that has ended
pub line_marked : (line : Option (List ℕ)) (m : Message) → meant m ≡ line_read line → is_mark answer m.mark ≡ true
line_marked None m is = let z : ◌≡◌ {A = ℕ} 0 1 = cc in absurd (omega arith)
line_marked (Some l) m is = message_marked l m is

part_read : (p : Part) → line_read (whole p) ≡ read_part ours p
part_read p = go p.over
  where
    go : (v : Bool) → line_read (cond v None (Some p.kept)) ≡ cond v (faulty 1 1024) (as_answer p.kept)
    go true = refl
    go false = refl

module _ (b a : ℕ → Standing) (line : Option (List ℕ)) (p : Part) (e : whole p ≡ line) where
  held : line_read line ≡ read_part ours p
  held = ap line_read (sym e) ∙ part_read p

  pub tells_fault : (f : Fault) → told f ≡ line_read line → ToldAs p b b (FaultKind f)
  tells_fault f is = record { told = subst (λ (r : Read). Told ours b b r fault) (is ∙ held) (told_fault _ _ (λ i. refl)); read = is ∙ held }

  pub tells_message : (m : Message) (k : Kind) → meant m ≡ line_read line → Told ours b a (meant m) (kind_of k) → ToldAs p b a k
  tells_message m k is t =
      record { told = subst (λ (r : Read). Told ours b a r (kind_of k)) (is ∙ held) t; read = read_again b a m k p.kept t ∙ stands p.over (is ∙ held) }
    where
      stands : (v : Bool) → meant m ≡ cond v (faulty 1 1024) (as_answer p.kept) → as_answer p.kept ≡ cond v (faulty 1 1024) (as_answer p.kept)
      stands true s = let z : ◌≡◌ {A = ℕ} 0 1 = cc in absurd (omega arith)
      stands false s = refl
