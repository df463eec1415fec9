-- What is read as an answer has one of its marks.
use Rattle.std.proofs.Common.{◌≡◌, ℕ, Bool, true, false, cond, leb, List, [], ◌∷◌, length, Some, None, Option, sym, refl, subst, arith}
use Rattle.escape.specs.Tokens.{tokens, first_broken, parts}
use Rattle.line.specs.Forms.{answer, Address, address_of, mark_of, is_mark, is_first_field}
use Rattle.line.specs.Lines.{Message, Read, meant, faulty, Parts, fields_of, body_place, mark_place, check_place, first_invisible, parted, unless_at, or_fault, unless_number, check_fault, body_read, parts_read}
use Rattle.numbers.specs.Ours.{as_answer}

-- the mark of what was read, if it is a message, is one of an answer
abbrev Marked : Read → Type 0
Marked (meant m) = is_mark answer m.mark ≡ true
Marked (faulty n p) = Unit {0}

marked_or : {X : Type 0} (o : Option X) (n p : ℕ) (k : X → Read) → ((x : X) → o ≡ Some x → Marked (k x)) → Marked (or_fault o n p k)
marked_or None n p k f = tt
marked_or (Some x) n p k f = f x refl

marked_unless : (o : Option ℕ) (n : ℕ) (r : Read) → Marked r → Marked (unless_at o n r)
marked_unless None n r f = f
marked_unless (Some p) n r f = tt

marked_cond : (v : Bool) (r q : Read) → Marked r → Marked q → Marked (cond v r q)
marked_cond true r q f g = f
marked_cond false r q f g = g

marked_number : (o : Option ℕ) (p : ℕ) (r : Read) → Marked r → Marked (unless_number o p r)
marked_number None p r f = f
marked_number (Some n) p r f = tt

some_is : {X : Type 0} (x y : X) → ◌≡◌ {A = Option X} (Some x) (Some y) → x ≡ y
some_is x y e = cc

is_marked : (s : List ℕ) (m : ℕ) → mark_of answer s ≡ Some m → is_mark answer m ≡ true
is_marked [] m e = let z : ◌≡◌ {A = ℕ} 0 1 = cc in absurd (omega arith)
is_marked (b ∷ []) m e = go (is_mark answer b) refl
  where
    go : (v : Bool) → is_mark answer b ≡ v → is_mark answer m ≡ true
    go true q = let f : Some b ≡ Some m = rw q at e in rw (← (some_is b m f)) q
    go false q = let f : None ≡ Some m = rw q at e in let z : ◌≡◌ {A = ℕ} 0 1 = cc in absurd (omega arith)
is_marked (b ∷ x ∷ s) m e = let z : ◌≡◌ {A = ℕ} 0 1 = cc in absurd (omega arith)

marked_body : (a : Address) (m : ℕ) (p : Parts) → is_mark answer m ≡ true → Marked (body_read answer a m p)
marked_body a m p is = marked_or (fields_of p.body) 9 (body_place p) _ (λ f e. marked_cond (is_first_field answer f.0) _ (faulty 10 (body_place p)) is tt)

marked_parts : (p : Parts) (summed : List ℕ) → Marked (parts_read answer p summed)
marked_parts p summed =
    marked_or (address_of answer p.address) 5 0 _ (λ a e.
    marked_or (mark_of answer p.mark) 6 (mark_place p) _ (λ m is.
    marked_number (check_fault summed p.check) (check_place p) (body_read answer a m p) (marked_body a m p (is_marked p.mark m is))))

marked : (line : List ℕ) → Marked (as_answer line)
unfolding as_answer
marked line =
    marked_cond (leb (length line) 1024) _ (faulty 1 1024)
    (marked_unless (first_invisible line) 2 _
    (marked_unless (first_broken (tokens line)) 3 _
    (marked_or (parted answer (parts 47 line)) 4 (length line) _ (λ p e. marked_parts p _))))
    tt

pub message_marked : (line : List ℕ) (m : Message) → meant m ≡ as_answer line → is_mark answer m.mark ≡ true
message_marked line m e = subst Marked (sym e) (marked line)
