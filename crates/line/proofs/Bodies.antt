-- The fields of a body, colon by colon, and the form of a name.
use Rattle.std.proofs.Common.{◌≡◌, ℕ, ◌-◌, ◌<◌, ◌≤◌, Bool, false, cond, leb, List, [], ◌∷◌, ◌++◌, length, get_or, take, drop, is_some, Some, None, Option, sym, refl, ap, ◌∙◌, arith, length-append, le-leb}
use Rattle.std.specs.Borrow.{Bor}
use Rattle.std.specs.Bool.{then_some}
use Rattle.escape.specs.Tokens.{tokens, ahead, parts}
use Rattle.escape.proofs.Walking.{ahead_none}
use Rattle.line.specs.Forms.{name_byte, every, is_name}
use Rattle.line.specs.Lines.{one_more, all_ended, first_and_later, fields_of}
use Rattle.line.specs.Reads.{behind, first_of}
use Rattle.line.proofs.Loops.{rest_of}

pub by_letter : (s : List ℕ) → 1 ≤ length s → 65 ≤ get_or s 0 0 → get_or s 0 0 ≤ 90
    → is_name s ≡ cond (every name_byte (take (length s - 1) (drop 1 s))) (leb (length (take (length s - 1) (drop 1 s))) 63) false
by_letter [] h a b = absurd (omega arith)
by_letter (x ∷ s) h a b = rw (rest_of 1 (x ∷ s) h, le-leb 65 x a, le-leb x 90 b)

pub joined_less : (c : ℕ) (s f after : List ℕ) → s ≡ f ++ (c ∷ after) → length after < length s
joined_less c s f after e = omega (arith, ap length e, length-append f (c ∷ after))

some_more : (f : List ℕ) (o : Option (List (List ℕ))) → is_some (one_more f o) ≡ is_some o
some_more f None = refl
some_more f (Some fs) = refl

ended_more : (f : List ℕ) (ps : List (List ℕ)) → ps ≡ ahead [] ps → all_ended (f ∷ ps) ≡ one_more f (all_ended ps)
ended_more f [] e = let z : ◌≡◌ {A = ℕ} 0 1 = cc in absurd (omega arith)
ended_more f (q ∷ ps) e = refl

-- a field that a colon ends, and the parts behind it
pub ended_by : (s f after : List ℕ) → f ∷ parts 58 after ≡ parts 58 s → all_ended (parts 58 s) ≡ one_more f (all_ended (parts 58 after))
ended_by s f after e = ap all_ended (sym e) ∙ ended_more f (parts 58 after) (ahead_none 58 (tokens after))

pub field_ended : (s f after : List ℕ) → f ∷ parts 58 after ≡ parts 58 s → is_some (all_ended (parts 58 s)) ≡ is_some (all_ended (parts 58 after))
field_ended s f after e = ap (λ (o : Option (List (List ℕ))). is_some o) (ended_by s f after e) ∙ some_more f (all_ended (parts 58 after))

-- the first field of a body
first_behind : (f : Bor (List ℕ)) (o : Option (List (List ℕ))) (t : Bool) → t ≡ is_some o → behind (then_some t f) ≡ first_of (first_and_later (one_more f.now o))
first_behind f None t e = rw e refl
first_behind f (Some fs) t e = rw e refl

pub first_if_ended : (s : List ℕ) (f : Bor (List ℕ)) (after : List ℕ) (t : Bool) (r : Option (Bor (List ℕ))) → f.now ∷ parts 58 after ≡ parts 58 s → t ≡ is_some (all_ended (parts 58 after)) → r ≡ then_some t f
    → behind r ≡ first_of (fields_of s)
first_if_ended s f after t r e is gave = ap behind gave ∙ first_behind f (all_ended (parts 58 after)) t is ∙ ap (λ (o : Option (List (List ℕ))). first_of (first_and_later o)) (sym (ended_by s f.now after e))
