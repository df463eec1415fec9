-- A line and its parts, slash by slash.
use Rattle.std.proofs.Common.{is_some, not, Bool, true, false, Option, sym, subst, ◌≡◌, ℕ, ◌+◌, ◌-◌, ◌≤◌, List, [], ◌∷◌, ◌++◌, length, take, Some, None, refl, ap, ◌∙◌, arith, length-append}
use Rattle.std.proofs.lemmas.List.{length-take-le}
use Rattle.std.specs.Borrow.{Bor}
use Rattle.std.specs.Bool.{then_some}
use Rattle.escape.specs.Fronts.{halved}
use Rattle.escape.specs.Tokens.{tokens, ahead, parts}
use Rattle.escape.proofs.Walking.{ahead_none}
use Rattle.line.specs.Forms.{Side, command}
use Rattle.line.specs.Lines.{parted}
use Rattle.line.specs.Cuts.{Sums, Cut}
use Rattle.line.specs.declared.reading.Parts.{Parts}

-- four slashes or more
too_many : (side : Side) (a m b d : List ℕ) (ps : List (List ℕ)) → ps ≡ ahead [] ps → None ≡ parted side (a ∷ m ∷ b ∷ d ∷ ps)
too_many side a m b d [] e = let z : ◌≡◌ {A = ℕ} 0 1 = cc in absurd (omega arith)
too_many side a m b d (p ∷ ps) e = refl

module _ (line a r m s : List ℕ)
    (first : a ∷ parts 47 r ≡ parts 47 line) (second : m ∷ parts 47 s ≡ parts 47 r)
    (one : line ≡ a ++ (47 ∷ r)) (two : r ≡ m ++ (47 ∷ s)) where
  both : a ∷ m ∷ parts 47 s ≡ parts 47 line
  both = ap (λ (ps : List (List ℕ)). a ∷ ps) second ∙ first

  sizes : length line ≡ length a + 1 + length m + 1 + length s
  sizes = omega (arith, ap length one, ap length two, length-append a (47 ∷ r), length-append m (47 ∷ s))

  pub without_check : (side : Side) → side ≡ command → s ∷ [] ≡ parts 47 s → Some (record { address = a; mark = m; body = s; check = None }) ≡ parted side (parts 47 line)
  without_check side is e = rw is (ap (λ (ps : List (List ℕ)). parted command (a ∷ m ∷ ps)) e ∙ ap (parted command) both)

  pub body_within : length a + 1 + length m + 1 ≤ length line
  body_within = omega (arith, sizes)

  module _ (b c : List ℕ) (third : b ∷ parts 47 c ≡ parts 47 s) (three : s ≡ b ++ (47 ∷ c)) where
    all : a ∷ m ∷ b ∷ parts 47 c ≡ parts 47 line
    all = ap (λ (ps : List (List ℕ)). a ∷ m ∷ ps) third ∙ both

    pub with_check : (side : Side) → c ∷ [] ≡ parts 47 c → Some (record { address = a; mark = m; body = b; check = Some c }) ≡ parted side (parts 47 line)
    with_check side e = ap (λ (ps : List (List ℕ)). parted side (a ∷ m ∷ b ∷ ps)) e ∙ ap (parted side) all

    pub with_more : (side : Side) (d x : List ℕ) → d ∷ parts 47 x ≡ parts 47 c → None ≡ parted side (parts 47 line)
    with_more side d x e = too_many side a m b d (parts 47 x) (ahead_none 47 (tokens x)) ∙ ap (λ (ps : List (List ℕ)). parted side (a ∷ m ∷ b ∷ ps)) e ∙ ap (parted side) all

    check_sizes : length line - length c ≡ length a + 1 + length m + 1 + length b + 1
    check_sizes = omega (arith, sizes, ap length three, length-append b (47 ∷ c))

    pub check_sums : Sums line (length a + 1 + length m + 1 + length b + 1) (take (length line - length c - 0) line) (Some c)
    check_sums =
        let n : length line - length c - 0 ≡ length a + 1 + length m + 1 + length b + 1 = omega (arith, check_sizes) in
        (ap (λ (k : ℕ). take k line) n, length-take-le (length line - length c - 0) line (omega arith) ∙ n)

-- by what a fourth cut finds
pub with_fourth : (line r s : List ℕ) (a m b c summed : Bor (List ℕ)) (side : Side) (o : Option (Bor (List ℕ) × Bor (List ℕ))) (t : Bool) (cut : Option Parts)
    → a.now ∷ parts 47 r ≡ parts 47 line → m.now ∷ parts 47 s ≡ parts 47 r → line ≡ a.now ++ (47 ∷ r) → r ≡ m.now ++ (47 ∷ s)
    → b.now ∷ parts 47 c.now ≡ parts 47 s → s ≡ b.now ++ (47 ∷ c.now)
    → halved 47 c.now o ≡ parts 47 c.now → is_some o ≡ not t → cut ≡ then_some t (record { address = a; mark = m; body = b; check = Some c; summed = summed })
    → summed.now ≡ take (length line - length c.now - 0) line → Cut side line cut
with_fourth line r s a m b c summed side None true cut first second one two third three e is gave sums =
    subst (Cut side line) (sym gave) (
      with_check line a.now r m.now s first second one two b.now c.now third three side e,
      subst (λ (x : List ℕ). Sums line (length a.now + 1 + length m.now + 1 + length b.now + 1) x (Some c.now)) (sym sums) (check_sums line a.now r m.now s first second one two b.now c.now third three),
      body_within line a.now r m.now s first second one two,
    )
with_fourth line r s a m b c summed side None false cut first second one two third three e is gave sums = cc
with_fourth line r s a m b c summed side (Some halves) true cut first second one two third three e is gave sums = cc
with_fourth line r s a m b c summed side (Some halves) false cut first second one two third three e is gave sums =
    subst (Cut side line) (sym gave) (with_more line a.now r m.now s first second one two b.now c.now third three side halves.0.now halves.1.now e)
