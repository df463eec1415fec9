-- A byte shown with the escapes of a field, and bytes one by one.
use Rattle.std.proofs.Common.{◌≡◌, ℕ, ◌+◌, ◌/◌, ◌%◌, ◌<◌, ◌≤◌, Bool, true, false, cond, leb, List, [], ◌∷◌, ◌++◌, length, get_or, take, decimal, sym, refl, ap, ◌∙◌, append_assoc, append-nil, arith, take_all}
use lib.Utf8.{encode}
use Rattle.std.proofs.DigitsParse.{decimal_digit}
use Rattle.std.proofs.lemmas.List.{take_more}
use Rattle.std.proofs.lemmas.Bool.{ne_eqb, le-leb, leb-true, lt-ltb}
use Rattle.escape.specs.Spelling.{in_digits, spelled, spelling}

-- no byte that has a short escape
pub record Plain (b : ℕ) : Type 0 where
  pub colon : b ≡ 58 → ⊥
  pub slash : b ≡ 47 → ⊥
  pub backslash : b ≡ 92 → ⊥
  pub newline : b ≡ 10 → ⊥
  pub return : b ≡ 13 → ⊥
  pub tab : b ≡ 9 → ⊥

module _ (b : ℕ) (p : Plain b) where
  pub as_it_is : 32 ≤ b → b ≤ 126 → encode b ≡ spelled b
  unfolding encode
  as_it_is low high =
      rw (lt-ltb b 128 (omega arith), ne_eqb b 58 p.colon, ne_eqb b 47 p.slash, ne_eqb b 92 p.backslash, ne_eqb b 10 p.newline, ne_eqb b 13 p.return, ne_eqb b 9 p.tab, le-leb 32 b low, le-leb b 126 high)

  pub by_number : (32 ≤ b → b ≤ 126 → ⊥) → in_digits b ≡ spelled b
  by_number out = rw (ne_eqb b 58 p.colon, ne_eqb b 47 p.slash, ne_eqb b 92 p.backslash, ne_eqb b 10 p.newline, ne_eqb b 13 p.return, ne_eqb b 9 p.tab) (go (leb 32 b) refl (leb b 126) refl)
    where
      go : (l : Bool) → leb 32 b ≡ l → (h : Bool) → leb b 126 ≡ h → in_digits b ≡ cond l (cond h (b ∷ []) (in_digits b)) (in_digits b)
      go true e true f = absurd (out (leb-true 32 b e) (leb-true b 126 f))
      go true e false f = refl
      go false e h f = refl

-- three digits, each shown as a number
pub three_digits : (b : ℕ) → b < 256 → 92 ∷ 100 ∷ (decimal (b / 100) ++ (decimal (b / 10 % 10) ++ decimal (b % 10))) ≡ in_digits b
three_digits b h = rw (decimal_digit (b / 100) (omega arith), decimal_digit (b / 10 % 10) (omega arith), decimal_digit (b % 10) (omega arith))

-- ---- several bytes
joined : (a b : List ℕ) → spelling (a ++ b) ≡ spelling a ++ spelling b
joined [] b = refl
joined (x ∷ a) b = ap (λ (l : List ℕ). spelled x ++ l) (joined a b) ∙ sym (append_assoc (spelled x) (spelling a) (spelling b))

pub one_more : (s : List ℕ) (i : ℕ) → i < length s → spelling (take i s) ++ spelled (get_or s i 0) ≡ spelling (take (i + 1) s)
one_more s i h = sym (ap spelling (take_more s i 0 h) ∙ joined (take i s) (get_or s i 0 ∷ []) ∙ ap (λ (l : List ℕ). spelling (take i s) ++ l) (append-nil (spelled (get_or s i 0))))

pub all_shown : (s : List ℕ) (i : ℕ) → length s ≤ i → spelling (take i s) ≡ spelling s
all_shown s i h = ap spelling (take_all i s h)
