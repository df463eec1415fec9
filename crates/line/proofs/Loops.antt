-- The turns of loops over bytes: a test of every byte, and a sum.
use Rattle.std.proofs.Common.{◌≡◌, ℕ, suc, ◌+◌, ◌-◌, ◌<◌, ◌≤◌, Bool, true, false, not, ◌&&◌, cond, ltb, List, [], ◌∷◌, length, get_or, take, drop, Some, None, sym, refl, ap, ◌∙◌, arith, length-drop, take_all}
use Rattle.std.specs.List.{list_all, position, position_or_len}
use Rattle.std.proofs.lemmas.List.{at_drop_more}
use Rattle.std.proofs.lemmas.Bool.{lt-ltb}
use Rattle.std.proofs.lemmas.Bool.Decides.{nat_tests}
use Rattle.escape.specs.Tokens.{further}
use Rattle.line.specs.Forms.{every, visible}
use Rattle.line.specs.Lines.{first_invisible}

-- what `rest @ ..` after n elements holds
pub rest_of : (n : ℕ) (s : List ℕ) → n ≤ length s → take (length s - n) (drop n s) ≡ drop n s
rest_of n s h = take_all _ (drop n s) (omega (arith, length-drop n s))

-- a test of every byte, by the word of the library
pub every_list : (test : ℕ → Bool) (s : List ℕ) → every test s ≡ list_all test s
every_list test [] = refl
every_list test (b ∷ s) = go (test b) (every_list test s)
  where
    go : (v : Bool) → every test s ≡ list_all test s → cond v (every test s) false ≡ (v && list_all test s)
    go true e = e
    go false e = refl

module _ (test : ℕ → Bool) (all s : List ℕ) (i : ℕ) (e : every test all ≡ every test (drop i s)) where
  every_at : i < length s → every test all ≡ cond (test (get_or s i 0)) (every test (drop (i + 1) s)) false
  every_at h = let m : every test (drop i s) ≡ cond (test (get_or s i 0)) (every test (drop (i + 1) s)) false = at_drop_more (every test) s i 0 h in e ∙ m

-- ---- where the first byte stands that may not stand in a line
ltb_suc : (a b : ℕ) → ltb (1 + a) (suc b) ≡ ltb a b
ltb_suc a b = grind (arith, nat_tests)

-- it stands where the library's word says
pub invisible_list : (s : List ℕ) → first_invisible s ≡ position (λ b. not (visible b)) s
invisible_list [] = refl
invisible_list (b ∷ s) = go (visible b) (invisible_list s) (lt-ltb 0 (suc (length s)) (omega arith)) (ltb_suc n (length s))
  where
    n : ℕ
    n = position_or_len (λ x. not (visible x)) s

    later : (t : Bool) → further 1 (cond t (Some n) None) ≡ cond t (Some (1 + n)) None
    later true = ap Some (omega arith)
    later false = refl

    go : (v : Bool) → first_invisible s ≡ position (λ x. not (visible x)) s → ltb 0 (suc (length s)) ≡ true → ltb (1 + n) (suc (length s)) ≡ ltb n (length s)
        → elim v [ true ↦ further 1 (first_invisible s) | false ↦ Some 0 ]
        ≡ cond (ltb (cond (not (not v)) (1 + n) 0) (suc (length s))) (Some (cond (not (not v)) (1 + n) 0)) None
    go true e z m = ap (further 1) e ∙ later (ltb n (length s)) ∙ ap (λ (t : Bool). cond t (Some (1 + n)) None) (sym m)
    go false e z m = ap (λ (t : Bool). cond t (Some 0) None) (sym z)
