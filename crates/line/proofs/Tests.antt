-- The reading of a line, test by test.
use Rattle.std.proofs.Common.{not, ◌≡◌, ℕ, ◌≤◌, Bool, cond, List, length, take, Some, None, Ok, Err, Option, Result, sym, refl, ap, ◌∙◌, le-leb}
use Rattle.escape.specs.Tokens.{tokens, first_broken, parts}
use Rattle.std.specs.List.{position}
use Rattle.line.specs.Forms.{Side, visible}
use Rattle.line.specs.Lines.{Read, faulty, Parts, parted, check_place, first_invisible, unless_at, or_fault, check_fault, parts_read, reading}
use Rattle.line.specs.Reads.{if_command}
use Rattle.line.specs.Cuts.{Sums, KeepsCheck, stated, KeepsStated}
use Rattle.line.proofs.Loops.{invisible_list}
use Rattle.line.specs.declared.fault.Fault.{Fault}
use Rattle.line.specs.declared.message.Message.{Message}

-- the tests behind those of the line's bytes, by what they found
abbrev found : Side → List ℕ → Option ℕ → Option ℕ → Option Parts → Read
found side line invisible broken cut = unless_at invisible 2 (unless_at broken 3 (or_fault cut 4 (length line) (λ p. parts_read side p (take (check_place p) line))))

-- what a check sums, where there is one
check_same : (line summed : List ℕ) (place : ℕ) (check : Option (List ℕ)) → Sums line place summed check → check_fault summed check ≡ check_fault (take place line) check
check_same line summed place None h = refl
check_same line summed place (Some c) h = ap (λ (s : List ℕ). check_fault s (Some c)) h.0

parts_same : (side : Side) (line summed : List ℕ) (p : Parts) → Sums line (check_place p) summed p.check → parts_read side p summed ≡ parts_read side p (take (check_place p) line)
parts_same side line summed p h = rw (check_same line summed (check_place p) p.check h)

module _ (side : Side) (line : List ℕ) (short : length line ≤ 1024) where
  by_tests : found side line (first_invisible line) (first_broken (tokens line)) (parted side (parts 47 line)) ≡ reading side line
  by_tests = ap (λ (b : Bool). cond b (found side line (first_invisible line) (first_broken (tokens line)) (parted side (parts 47 line))) (faulty 1 1024)) (sym (le-leb (length line) 1024 short))

  -- the code asks by the library's word
  looked : (o : Option ℕ) → o ≡ position (λ b. not (visible b)) line → o ≡ first_invisible line
  looked o e = e ∙ sym (invisible_list line)

  pub is_invisible : (place : ℕ) → Some place ≡ position (λ b. not (visible b)) line → faulty 2 place ≡ reading side line
  is_invisible place e = ap (λ (o : Option ℕ). found side line o (first_broken (tokens line)) (parted side (parts 47 line))) (looked (Some place) e) ∙ by_tests

  pub is_broken : (place : ℕ) → None ≡ position (λ b. not (visible b)) line → Some place ≡ first_broken (tokens line) → faulty 3 place ≡ reading side line
  is_broken place v b = ap (λ (o : Option ℕ). found side line None o (parted side (parts 47 line))) b ∙ ap (λ (o : Option ℕ). found side line o (first_broken (tokens line)) (parted side (parts 47 line))) (looked None v) ∙ by_tests

  pub is_uncut : None ≡ position (λ b. not (visible b)) line → None ≡ first_broken (tokens line) → None ≡ parted side (parts 47 line) → faulty 4 (length line) ≡ reading side line
  is_uncut v b e = ap (found side line None None) e ∙ ap (λ (o : Option ℕ). found side line None o (parted side (parts 47 line))) b ∙ ap (λ (o : Option ℕ). found side line o (first_broken (tokens line)) (parted side (parts 47 line))) (looked None v) ∙ by_tests

  pub is_cut : (p : Parts) (summed : List ℕ) (r : Read) → None ≡ position (λ b. not (visible b)) line → None ≡ first_broken (tokens line) → Some p ≡ parted side (parts 47 line) → Sums line (check_place p) summed p.check → r ≡ parts_read side p summed → r ≡ reading side line
  is_cut p summed r v b e h is = is ∙ parts_same side line summed p h ∙ ap (found side line None None) e ∙ ap (λ (o : Option ℕ). found side line None o (parted side (parts 47 line))) b ∙ ap (λ (o : Option ℕ). found side line o (first_broken (tokens line)) (parted side (parts 47 line))) (looked None v) ∙ by_tests

pub keeps : (side : Side) (line : List ℕ) (p : Parts) (r : Result Message Fault) → Some p ≡ parted side (parts 47 line) → KeepsCheck side p r → KeepsStated side line r
keeps side line p (Ok m) e k = k ∙ ap (λ (o : Option Parts). if_command side (stated o)) e
keeps side line p (Err f) e k = tt
