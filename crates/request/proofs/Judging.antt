-- A request is judged alike for every digit: by cases over the parts that the slashes cut of its address and of its body.
use Rattle.std.proofs.Common.{◌≡◌, ℕ, ◌+◌, ◌/◌, ◌%◌, ◌<◌, ◌≤◌, Bool, true, false, ltb, leb, List, [], ◌∷◌, ◌++◌, map, length, take, Some, None, Option, sym, refl, ap, ◌∙◌, subst, append_assoc, arith, length-append, take_at}
use Rattle.std.proofs.lemmas.List.{same_from_push}
use Rattle.std.proofs.lemmas.Bool.{leb-true, leb-false, le-leb, lt-leb, lt-ltb, eq-eqb}
use Rattle.std.specs.List.{AllByRecursion}
use Rattle.escape.specs.Tokens.{Token, plain, tokens, digit, text, further, first_broken, ahead, parts_of, parts, resolved}
use Rattle.escape.proofs.Opening.{tokens_plain}
use Rattle.escape.proofs.Walking.{parts_other, parts_here}
use Rattle.escape.proofs.Chunks.{Tame, Seen}
use Rattle.line.specs.Forms.{command, Address, every, visible, two_digits, address_of, mark_of, check_of, is_first_field}
use Rattle.line.specs.Lines.{Message, meant, faulty, Parts, parted, mark_place, body_place, check_place, all_ended, one_more, nothing_left, first_and_later, fields_of, first_invisible, sum_fault, check_fault, body_read, parts_read, reading}
use Rattle.writer.specs.Canonical.{in_two_digits, head_text, canonical, sendable}
use Rattle.writer.specs.Laws.{Bytes, has_check, keeps_check}
use Rattle.writer.proofs.Addresses.{never, tame_digit, two_tame, two_back, formed_address, address_was}
use Rattle.writer.proofs.Backs.{in_a_row, reading_by}
use Rattle.writer.proofs.Repeating.{writes_again}
use Rattle.numbers.specs.Browse.{is_command}
use Rattle.numbers.specs.Ours.{all_bytes}
use Rattle.request.specs.Requests.{composed, request_read}
use Rattle.request.specs.Laws.{marked, DigitUntold, Ready, Sends}
use Rattle.request.proofs.Puts.{composed_length}
use Rattle.request.proofs.Cuts.{past, broken_past, past_none, past_some, Ends, stops, goes_on, ends, glue, Cons, cons, parts_cons, glue_cons, parts_glue, rejoined, parts_text}

-- ---- bytes that are all visible where two lists differ
seen_front : (xs ys zs : List ℕ) → first_invisible ys ≡ first_invisible zs → first_invisible (xs ++ ys) ≡ first_invisible (xs ++ zs)
seen_front [] ys zs e = e
seen_front (x ∷ xs) ys zs e = go (visible x) (seen_front xs ys zs e)
  where
    go : (t : Bool) → first_invisible (xs ++ ys) ≡ first_invisible (xs ++ zs)
        → ◌≡◌ {A = Option ℕ} (elim t [ true ↦ further 1 (first_invisible (xs ++ ys)) | false ↦ Some 0 ]) (elim t [ true ↦ further 1 (first_invisible (xs ++ zs)) | false ↦ Some 0 ])
    go true h = ap (further 1) h
    go false h = refl

seen_past : (b : ℕ) (s : List ℕ) → Seen b → first_invisible (b ∷ s) ≡ further 1 (first_invisible s)
seen_past b s h = go (visible b) (rw (le-leb 32 b h.0) (le-leb b 126 h.1))
  where
    go : (t : Bool) → t ≡ true → ◌≡◌ {A = Option ℕ} (elim t [ true ↦ further 1 (first_invisible s) | false ↦ Some 0 ]) (further 1 (first_invisible s))
    go true e = refl
    go false e = never e

-- a line with any digits
abbrev row : List ℕ → List ℕ → ℕ → ℕ → ℕ → List ℕ
row a b d x y = a ++ (47 ∷ d ∷ 47 ∷ (b ++ (47 ∷ x ∷ y ∷ [])))

seen_of : (b : ℕ) → Tame b → Seen b
seen_of b h = (h.0, h.1)

zero_tame : Tame 48
zero_tame = tame_digit 48 refl

end_seen : (x y : ℕ) → Tame x → Tame y → first_invisible (47 ∷ x ∷ y ∷ []) ≡ None
end_seen x y hx hy = ap (further 1) (seen_past x (y ∷ []) (seen_of x hx) ∙ ap (further 1) (seen_past y [] (seen_of y hy)))

seen_row : (a b : List ℕ) (d x y : ℕ) → Tame d → Tame x → Tame y → first_invisible (row a b d x y) ≡ first_invisible (row a b 48 48 48)
seen_row a b d x y hd hx hy =
    let end : first_invisible (b ++ (47 ∷ x ∷ y ∷ [])) ≡ first_invisible (b ++ (47 ∷ 48 ∷ 48 ∷ [])) = seen_front b _ _ (end_seen x y hx hy ∙ sym (end_seen 48 48 zero_tame zero_tame)) in
    let mark : first_invisible (d ∷ 47 ∷ (b ++ (47 ∷ x ∷ y ∷ []))) ≡ first_invisible (48 ∷ 47 ∷ (b ++ (47 ∷ 48 ∷ 48 ∷ []))) = seen_past d (47 ∷ (b ++ (47 ∷ x ∷ y ∷ []))) (seen_of d hd) ∙ ap (λ (o : Option ℕ). further 1 (further 1 o)) end in
    seen_front a _ _ (ap (further 1) mark)

-- ---- forms that some parts cannot have
slash_wild : (s u : List ℕ) → AllByRecursion Tame (s ++ (47 ∷ u)) → ⊥
slash_wild [] u h = h.0.3 refl
slash_wild (b ∷ s) u h = slash_wild s u h.1

no_address : (s u : List ℕ) → address_of command (s ++ (47 ∷ u)) ≡ None
no_address s u = go (address_of command (s ++ (47 ∷ u))) refl
  where
    go : (o : Option Address) → address_of command (s ++ (47 ∷ u)) ≡ o → o ≡ None
    go None e = refl
    go (Some x) e =
        let w = address_was command (s ++ (47 ∷ u)) x e in
        absurd (slash_wild s u (subst (λ (t : List ℕ). AllByRecursion Tame t) w.text (formed_address command x w.form).tame))

no_mark : (x : ℕ) (s : List ℕ) (d : ℕ) → mark_of command ((x ∷ s) ++ (d ∷ [])) ≡ None
no_mark x [] d = refl
no_mark x (y ∷ s) d = refl

no_check : (b : ℕ) (s : List ℕ) (x y : ℕ) → two_digits ((b ∷ s) ++ (x ∷ y ∷ [])) ≡ None
no_check b [] x y = refl
no_check b (c ∷ []) x y = refl
no_check b (c ∷ d ∷ s) x y = refl

unended_one : (p : List ℕ) (x : ℕ) (s : List ℕ) → nothing_left (p ++ (x ∷ s)) ≡ None
unended_one [] x s = refl
unended_one (b ∷ p) x s = refl

unended_past : (p : List ℕ) (ps : List (List ℕ)) → Cons ps → all_ended ps ≡ None → all_ended (p ∷ ps) ≡ None
unended_past p ps (cons q qs) e = ap (one_more p) e

unended : (ps : List (List ℕ)) (x : ℕ) (s : List ℕ) → all_ended (glue ps ((x ∷ s) ∷ [])) ≡ None
unended [] x s = refl
unended (p ∷ []) x s = unended_one p x s
unended (p ∷ q ∷ ps) x s = unended_past p (glue (q ∷ ps) ((x ∷ s) ∷ [])) (glue_cons (q ∷ ps) (x ∷ s) []) (unended (q ∷ ps) x s)

many : (p q r s : List ℕ) (ps : List (List ℕ)) → Cons ps → parted command (p ∷ q ∷ r ∷ s ∷ ps) ≡ None
many p q r s ps (cons t ts) = refl

many_glued : (p q r s : List ℕ) (ps : List (List ℕ)) (t : List ℕ) (ts : List (List ℕ)) → Cons ts → parted command (p ∷ q ∷ r ∷ glue (s ∷ ps) (t ∷ ts)) ≡ None
many_glued p q r s [] t ts w = many p q r (s ++ t) ts w
many_glued p q r s (u ∷ us) t ts w = many p q r s (glue (u ∷ us) (t ∷ ts)) (glue_cons (u ∷ us) t ts)

none_cons : Cons [] → ⊥
none_cons w = elim w [ ]

-- ---- reading, up to what is refused
too_long_read : (line : List ℕ) → leb (length line) 1024 ≡ false → reading command line ≡ faulty 1 1024
too_long_read line long = rw long

invisible_read : (line : List ℕ) (p : ℕ) → leb (length line) 1024 ≡ true → first_invisible line ≡ Some p → reading command line ≡ faulty 2 p
invisible_read line p short e = rw (short, e)

broken_read : (line : List ℕ) (p : ℕ) → leb (length line) 1024 ≡ true → first_invisible line ≡ None → first_broken (tokens line) ≡ Some p → reading command line ≡ faulty 3 p
broken_read line p short seen e = rw (short, seen, e)

unparted_read : (line : List ℕ) → leb (length line) 1024 ≡ true → first_invisible line ≡ None → first_broken (tokens line) ≡ None → parted command (parts 47 line) ≡ None → reading command line ≡ faulty 4 (length line)
unparted_read line short seen whole cut = rw (short, seen, whole, cut)

module _ (p : Parts) (summed : List ℕ) where
  bad_address : address_of command p.address ≡ None → parts_read command p summed ≡ faulty 5 0
  bad_address e = rw e

  bad_mark : (x : Address) → address_of command p.address ≡ Some x → mark_of command p.mark ≡ None → parts_read command p summed ≡ faulty 6 (mark_place p)
  bad_mark x e f = rw (e, f)

  bad_check : (x : Address) (m : ℕ) → address_of command p.address ≡ Some x → mark_of command p.mark ≡ Some m → check_fault summed p.check ≡ Some 7 → parts_read command p summed ≡ faulty 7 (check_place p)
  bad_check x m e f g = rw (e, f, g)

  good_parts : (x : Address) (m : ℕ) → address_of command p.address ≡ Some x → mark_of command p.mark ≡ Some m → check_fault summed p.check ≡ None → parts_read command p summed ≡ body_read command x m p
  good_parts x m e f g = rw (e, f, g)

-- a line that is read is not too long
fits_read : (line : List ℕ) (m : Message) → reading command line ≡ meant m → length line ≤ 1024
fits_read line m e = go (leb (length line) 1024) refl
  where
    go : (t : Bool) → leb (length line) 1024 ≡ t → length line ≤ 1024
    go true p = leb-true (length line) 1024 p
    go false p = let long = too_long_read line p in let z : ◌≡◌ {A = ℕ} 0 1 = cc in absurd (omega arith)

-- ---- what is judged
pub record Accepted (a b : List ℕ) (d : ℕ) (x : Address) (fs : List (List ℕ)) : Type 0 where
  pub reads : request_read a d b ≡ meant (record { side = command; address = x; mark = d; fields = fs })
  pub checked : has_check command (composed a d b) ≡ true

pub data Judged (a b : List ℕ) : Type 0 where
  refused : (n p : ℕ) → ((d : ℕ) → digit d ≡ true → request_read a d b ≡ faulty n p) → Judged a b
  accepted : (x : Address) (fs : List (List ℕ)) → ((d : ℕ) → digit d ≡ true → Accepted a b d x fs) → Judged a b

-- the two digits of the check
abbrev digits : List ℕ → List ℕ → ℕ → List ℕ
digits a b d = in_two_digits (check_of ((head_text a d ++ b) ++ (47 ∷ [])))

abbrev plain_digits : List ℕ → List ℕ → ℕ → List Token
plain_digits a b d = plain (48 + check_of ((head_text a d ++ b) ++ (47 ∷ [])) / 10) ∷ plain (48 + check_of ((head_text a d ++ b) ++ (47 ∷ [])) % 10) ∷ []

-- of an address and a body whose escapes are whole: what the slashes cut of each with a slash behind it, and of their line
record Whole (a b : List ℕ) (ps qs : List (List ℕ)) : Type 0 where
  short : length a + length b + 6 ≤ 1024
  seen : (d : ℕ) → digit d ≡ true → first_invisible (composed a d b) ≡ None
  unbroken : (d : ℕ) → digit d ≡ true → first_broken (tokens (composed a d b)) ≡ None
  cut : (d : ℕ) → digit d ≡ true → parts 47 (composed a d b) ≡ glue ps ((d ∷ []) ∷ glue qs (digits a b d ∷ []))
  some_a : Cons ps
  some_b : Cons qs
  text_a : rejoined 47 ps ≡ a ++ (47 ∷ [])
  text_b : rejoined 47 qs ≡ b ++ (47 ∷ [])
  open_end : (d : ℕ) → digit d ≡ true → fields_of ((b ++ (47 ∷ [])) ++ digits a b d) ≡ None

module _ (a b : List ℕ) where
  short_line : (d : ℕ) → length a + length b + 6 ≤ 1024 → leb (length (composed a d b)) 1024 ≡ true
  short_line d h = le-leb (length (composed a d b)) 1024 (omega (arith, composed_length a b d))

  unparted : (ps qs : List (List ℕ)) → Whole a b ps qs → ((d : ℕ) → parted command (glue ps ((d ∷ []) ∷ glue qs (digits a b d ∷ []))) ≡ None) → Judged a b
  unparted ps qs w none =
      refused 4 (length a + length b + 6)
      (λ d h. unparted_read (composed a d b) (short_line d w.short) (w.seen d h) (w.unbroken d h) (ap (parted command) (w.cut d h) ∙ none d) ∙ ap (faulty 4) (composed_length a b d))

  -- the parts of the line, for each digit
  record Parted (ps qs : List (List ℕ)) (p : ℕ → Parts) : Type 0 where
    all : Whole a b ps qs
    are : (d : ℕ) → parted command (glue ps ((d ∷ []) ∷ glue qs (digits a b d ∷ []))) ≡ Some (p d)

  module _ {ps qs : List (List ℕ)} (p : ℕ → Parts) (w : Parted ps qs p) where
    by_parts : (d : ℕ) → digit d ≡ true → request_read a d b ≡ parts_read command (p d) (take (check_place (p d)) (composed a d b))
    by_parts d h = reading_by command (composed a d b) (p d) (short_line d w.all.short) (w.all.seen d h) (w.all.unbroken d h) (ap (parted command) (w.all.cut d h) ∙ w.are d)

    -- the slash behind the address stands in an escape
    escaped_address : (s : List ℕ) → s ≡ a ++ (47 ∷ []) → ((d : ℕ) → (p d).address ≡ s ++ (d ∷ [])) → Judged a b
    escaped_address s e is =
        refused 5 0
        (λ d h. by_parts d h ∙ bad_address (p d) _ (ap (address_of command) (is d ∙ ap (λ (x : List ℕ). x ++ (d ∷ [])) e ∙ append_assoc a (47 ∷ []) (d ∷ [])) ∙ no_address a (d ∷ [])))

    wrong_address : (s : List ℕ) → address_of command s ≡ None → ((d : ℕ) → (p d).address ≡ s) → Judged a b
    wrong_address s e is = refused 5 0 (λ d h. by_parts d h ∙ bad_address (p d) _ (ap (address_of command) (is d) ∙ e))

    wrong_mark : (s : List ℕ) (x : Address) → address_of command s ≡ Some x → ((d : ℕ) → (p d).address ≡ s) → ((d : ℕ) → mark_of command (p d).mark ≡ None) → Judged a b
    wrong_mark s x e is lacks =
        refused 6 (length s + 1) (λ d h. by_parts d h ∙ bad_mark (p d) _ x (ap (address_of command) (is d) ∙ e) (lacks d) ∙ ap (λ (t : List ℕ). faulty 6 (length t + 1)) (is d))

    wrong_check : (s : List ℕ) (x : Address) (n : ℕ) → address_of command s ≡ Some x → ((d : ℕ) → (p d).address ≡ s) → ((d : ℕ) → digit d ≡ true → (m : ℕ) × (mark_of command (p d).mark ≡ Some m))
        → ((d : ℕ) (summed : List ℕ) → check_fault summed (p d).check ≡ Some 7) → ((d : ℕ) → check_place (p d) ≡ n) → Judged a b
    wrong_check s x n e is mark lacks place =
        refused 7 n (λ d h. by_parts d h ∙ bad_check (p d) _ x (mark d h).0 (ap (address_of command) (is d) ∙ e) (mark d h).1 (lacks d _) ∙ ap (faulty 7) (place d))

  -- ---- by the parts of the address with its slash
  one : (p : List ℕ) (qs : List (List ℕ)) → Whole a b (p ∷ []) qs → Judged a b
  one p [] w = absurd (none_cons w.some_b)
  one p (y ∷ []) w = unparted (p ∷ []) (y ∷ []) w (λ d. refl)
  one p (y ∷ z ∷ []) w =
      escaped_address {ps = p ∷ []} {qs = y ∷ z ∷ []} (λ d. record { address = p ++ (d ∷ []); mark = y; body = z ++ digits a b d; check = None }) (record { all = w; are = λ d. refl }) p w.text_a (λ d. refl)
  one p (y ∷ z ∷ v ∷ []) w =
      escaped_address {ps = p ∷ []} {qs = y ∷ z ∷ v ∷ []} (λ d. record { address = p ++ (d ∷ []); mark = y; body = z; check = Some (v ++ digits a b d) }) (record { all = w; are = λ d. refl }) p w.text_a (λ d. refl)
  one p (y ∷ z ∷ v ∷ u ∷ us) w = unparted (p ∷ []) (y ∷ z ∷ v ∷ u ∷ us) w (λ d. many (p ++ (d ∷ [])) y z v (glue (u ∷ us) (digits a b d ∷ [])) (glue_cons (u ∷ us) (digits a b d) []))

  module _ (p : List ℕ) (x : ℕ) (q : List ℕ) where
    wild : {qs : List (List ℕ)} (f : ℕ → Parts) → Parted (p ∷ (x ∷ q) ∷ []) qs f → ((d : ℕ) → (f d).address ≡ p) → ((d : ℕ) → (f d).mark ≡ (x ∷ q) ++ (d ∷ [])) → Judged a b
    wild f w is mark = go (address_of command p) refl
      where
        go : (o : Option Address) → address_of command p ≡ o → Judged a b
        go None e = wrong_address f w p e is
        go (Some t) e = wrong_mark f w p t e is (λ d. ap (mark_of command) (mark d) ∙ no_mark x q d)

    two_wild : (qs : List (List ℕ)) → Whole a b (p ∷ (x ∷ q) ∷ []) qs → Judged a b
    two_wild [] w = absurd (none_cons w.some_b)
    two_wild (y ∷ []) w = wild {qs = y ∷ []} (λ d. record { address = p; mark = (x ∷ q) ++ (d ∷ []); body = y ++ digits a b d; check = None }) (record { all = w; are = λ d. refl }) (λ d. refl) (λ d. refl)
    two_wild (y ∷ z ∷ []) w = wild {qs = y ∷ z ∷ []} (λ d. record { address = p; mark = (x ∷ q) ++ (d ∷ []); body = y; check = Some (z ++ digits a b d) }) (record { all = w; are = λ d. refl }) (λ d. refl) (λ d. refl)
    two_wild (y ∷ z ∷ v ∷ vs) w = unparted (p ∷ (x ∷ q) ∷ []) (y ∷ z ∷ v ∷ vs) w (λ d. many p ((x ∷ q) ++ (d ∷ [])) y z (glue (v ∷ vs) (digits a b d ∷ [])) (glue_cons (v ∷ vs) (digits a b d) []))

  abbrev in_three : List ℕ → List ℕ → List ℕ → ℕ → List ℕ → ℕ → Parts
  in_three p q r x y d = record { address = p; mark = q; body = r ++ (d ∷ []); check = Some ((x ∷ y) ++ digits a b d) }

  three : (p q r : List ℕ) (qs : List (List ℕ)) → Whole a b (p ∷ q ∷ r ∷ []) qs → Judged a b
  three p q r [] w = absurd (none_cons w.some_b)
  three p q r ([] ∷ []) w = absurd (omega (arith, ap length w.text_b, length-append b (47 ∷ [])))
  three p q r ((x ∷ y) ∷ []) w = go (address_of command p) refl (mark_of command q) refl
    where
      go : (o : Option Address) → address_of command p ≡ o → (m : Option ℕ) → mark_of command q ≡ m → Judged a b
      go None e m0 g = wrong_address {ps = p ∷ q ∷ r ∷ []} {qs = (x ∷ y) ∷ []} (in_three p q r x y) (record { all = w; are = λ d. refl }) p e (λ d. refl)
      go (Some t) e None g = wrong_mark {ps = p ∷ q ∷ r ∷ []} {qs = (x ∷ y) ∷ []} (in_three p q r x y) (record { all = w; are = λ d. refl }) p t e (λ d. refl) (λ d. g)
      go (Some t) e (Some m) g =
          wrong_check {ps = p ∷ q ∷ r ∷ []} {qs = (x ∷ y) ∷ []} (in_three p q r x y) (record { all = w; are = λ d. refl }) p t (length p + 1 + length q + 1 + (length r + 1) + 1) e (λ d. refl) (λ d h. (m, g))
          (λ d summed. ap (λ (o : Option ℕ). sum_fault o (check_of summed)) (no_check x y _ _)) (λ d. omega (arith, length-append r (d ∷ [])))
  three p q r (y ∷ z ∷ zs) w = unparted (p ∷ q ∷ r ∷ []) (y ∷ z ∷ zs) w (λ d. many p q (r ++ (d ∷ [])) y (glue (z ∷ zs) (digits a b d ∷ [])) (glue_cons (z ∷ zs) (digits a b d) []))

  -- ---- an address with no slash of its own: the line has all its parts, if the body has none either
  abbrev in_two : (List ℕ) → List ℕ → Option (List ℕ) → ℕ → Parts
  in_two p body check d = record { address = p; mark = d ∷ []; body = body; check = check }

  mark_is : (d : ℕ) → digit d ≡ true → mark_of command (d ∷ []) ≡ Some d
  mark_is d h = rw h

  no_body : (x : Address) (m : ℕ) (p : Parts) → fields_of p.body ≡ None → body_read command x m p ≡ faulty 9 (body_place p)
  no_body x m p e = rw e

  no_name : (x : Address) (m : ℕ) (p : Parts) (f : List ℕ × List (List ℕ)) → fields_of p.body ≡ Some f → is_first_field command f.0 ≡ false → body_read command x m p ≡ faulty 10 (body_place p)
  no_name x m p f e g = rw (e, g)

  whole_body : (x : Address) (m : ℕ) (p : Parts) (f : List ℕ × List (List ℕ)) → fields_of p.body ≡ Some f → is_first_field command f.0 ≡ true
      → body_read command x m p ≡ meant (record { side = command; address = x; mark = m; fields = f.0 ∷ map resolved f.1 })
  whole_body x m p f e g = rw (e, g)

  -- the slash behind the body stands in an escape
  unclosed_body : (p y : List ℕ) → Whole a b (p ∷ [] ∷ []) (y ∷ []) → Judged a b
  unclosed_body p y w = go (address_of command p) refl
    where
      all : Parted (p ∷ [] ∷ []) (y ∷ []) (λ d. in_two p (y ++ digits a b d) None d)
      all = record { all = w; are = λ d. refl }

      go : (o : Option Address) → address_of command p ≡ o → Judged a b
      go None e = wrong_address (λ d. in_two p (y ++ digits a b d) None d) all p e (λ d. refl)
      go (Some x) e =
          refused 9 (length p + 1 + 1 + 1)
          (λ d h. by_parts (λ d. in_two p (y ++ digits a b d) None d) all d h
          ∙ good_parts (in_two p (y ++ digits a b d) None d) (take (check_place (in_two p (y ++ digits a b d) None d)) (composed a d b)) x d e (mark_is d h) refl
          ∙ no_body x d (in_two p (y ++ digits a b d) None d) (ap (λ (s : List ℕ). fields_of (s ++ digits a b d)) w.text_b ∙ w.open_end d h))

  long_check : (p y : List ℕ) (z : ℕ) (zs : List ℕ) → Whole a b (p ∷ [] ∷ []) (y ∷ (z ∷ zs) ∷ []) → Judged a b
  long_check p y z zs w = go (address_of command p) refl
    where
      all : Parted (p ∷ [] ∷ []) (y ∷ (z ∷ zs) ∷ []) (λ d. in_two p y (Some ((z ∷ zs) ++ digits a b d)) d)
      all = record { all = w; are = λ d. refl }

      go : (o : Option Address) → address_of command p ≡ o → Judged a b
      go None e = wrong_address (λ d. in_two p y (Some ((z ∷ zs) ++ digits a b d)) d) all p e (λ d. refl)
      go (Some x) e =
          wrong_check (λ d. in_two p y (Some ((z ∷ zs) ++ digits a b d)) d) all p x (length p + 1 + 1 + 1 + length y + 1) e (λ d. refl) (λ d h. (d, mark_is d h))
          (λ d summed. ap (λ (o : Option ℕ). sum_fault o (check_of summed)) (no_check z zs _ _)) (λ d. refl)

  -- the check is that of the line
  right_check : (p y : List ℕ) (d : ℕ) → p ≡ a → y ≡ b → check_fault (take (check_place (in_two p y (Some (digits a b d)) d)) (composed a d b)) (Some (digits a b d)) ≡ None
  right_check p y d ep ey =
      let summed = (head_text a d ++ b) ++ (47 ∷ []) in
      let place = length p + 1 + 1 + 1 + length y + 1 in
      let front : take place (composed a d b) ≡ summed =
      ap (take place) (sym (append_assoc (head_text a d ++ b) (47 ∷ []) (digits a b d)))
      ∙ take_at summed (digits a b d) place
      (omega (arith, ap length ep, ap length ey, length-append (head_text a d ++ b) (47 ∷ []), length-append (head_text a d) b, length-append a (47 ∷ d ∷ 47 ∷ []))) in
      ap (λ (s : List ℕ). check_fault s (Some (digits a b d))) front
      ∙ ap (λ (o : Option ℕ). sum_fault o (check_of summed)) (two_back (check_of summed) (omega arith))
      ∙ rw (eq-eqb (check_of summed) (check_of summed) refl)

  formed_line : (p y : List ℕ) → Whole a b (p ∷ [] ∷ []) (y ∷ [] ∷ []) → Judged a b
  formed_line p y w = go (address_of command p) refl (fields_of y) refl
    where
      all : Parted (p ∷ [] ∷ []) (y ∷ [] ∷ []) (λ d. in_two p y (Some (digits a b d)) d)
      all = record { all = w; are = λ d. refl }

      read : (x : Address) → address_of command p ≡ Some x → (d : ℕ) → digit d ≡ true → request_read a d b ≡ body_read command x d (in_two p y (Some (digits a b d)) d)
      read x e d h =
          by_parts (λ d. in_two p y (Some (digits a b d)) d) all d h
          ∙ good_parts (in_two p y (Some (digits a b d)) d) (take (check_place (in_two p y (Some (digits a b d)) d)) (composed a d b)) x d e (mark_is d h) (right_check p y d (same_from_push p a 47 47 w.text_a).0 (same_from_push y b 47 47 w.text_b).0)

      named : (x : Address) → address_of command p ≡ Some x → (f : List ℕ × List (List ℕ)) → fields_of y ≡ Some f → (t : Bool) → is_first_field command f.0 ≡ t → Judged a b
      named x e f g false t = refused 10 (length p + 1 + 1 + 1) (λ d h. read x e d h ∙ no_name x d (in_two p y (Some (digits a b d)) d) f g t)
      named x e f g true t =
          accepted x (f.0 ∷ map resolved f.1)
          (λ d h. record { reads = read x e d h ∙ whole_body x d (in_two p y (Some (digits a b d)) d) f g t; checked = ap (λ (ps : List (List ℕ)). keeps_check (parted command ps)) (w.cut d h) })

      go : (o : Option Address) → address_of command p ≡ o → (f : Option (List ℕ × List (List ℕ))) → fields_of y ≡ f → Judged a b
      go None e f0 g = wrong_address (λ d. in_two p y (Some (digits a b d)) d) all p e (λ d. refl)
      go (Some x) e None g = refused 9 (length p + 1 + 1 + 1) (λ d h. read x e d h ∙ no_body x d (in_two p y (Some (digits a b d)) d) g)
      go (Some x) e (Some f) g = named x e f g (is_first_field command f.0) refl

  two : (p : List ℕ) (qs : List (List ℕ)) → Whole a b (p ∷ [] ∷ []) qs → Judged a b
  two p [] w = absurd (none_cons w.some_b)
  two p (y ∷ []) w = unclosed_body p y w
  two p (y ∷ [] ∷ []) w = formed_line p y w
  two p (y ∷ (z ∷ zs) ∷ []) w = long_check p y z zs w
  two p (y ∷ z ∷ v ∷ vs) w = unparted (p ∷ [] ∷ []) (y ∷ z ∷ v ∷ vs) w (λ d. many p (d ∷ []) y z (glue (v ∷ vs) (digits a b d ∷ [])) (glue_cons (v ∷ vs) (digits a b d) []))

  by_cut : (ps qs : List (List ℕ)) → Whole a b ps qs → Judged a b
  by_cut [] qs w = absurd (none_cons w.some_a)
  by_cut (p ∷ []) qs w = one p qs w
  by_cut (p ∷ [] ∷ []) qs w = two p qs w
  by_cut (p ∷ (x ∷ q) ∷ []) qs w = two_wild p x q qs w
  by_cut (p ∷ q ∷ r ∷ []) qs w = three p q r qs w
  by_cut (p ∷ q ∷ r ∷ s ∷ ps) qs w = unparted (p ∷ q ∷ r ∷ s ∷ ps) qs w (λ d. many_glued p q r s ps (d ∷ []) (glue qs (digits a b d ∷ [])) (glue_cons qs (digits a b d) []))

  -- ---- by the tokens of address and body
  digits_tame : (d : ℕ) → AllByRecursion Tame (digits a b d)
  digits_tame d = two_tame (check_of ((head_text a d ++ b) ++ (47 ∷ []))) (omega arith)

  is_row : (d : ℕ) → composed a d b ≡ a ++ (47 ∷ d ∷ 47 ∷ (b ++ (47 ∷ digits a b d)))
  is_row d = in_a_row a b (digits a b d) d

  seen_line : (d : ℕ) → digit d ≡ true → first_invisible (composed a d b) ≡ first_invisible (row a b 48 48 48)
  seen_line d h = let t = digits_tame d in ap first_invisible (is_row d) ∙ seen_row a b d _ _ (tame_digit d h) t.0 t.1.0

  digits_plain : (x y : ℕ) → Tame x → Tame y → tokens (x ∷ y ∷ []) ≡ plain x ∷ plain y ∷ []
  digits_plain x y hx hy = tokens_plain x (y ∷ []) hx.4 ∙ ap (λ (ts : List Token). plain x ∷ ts) (tokens_plain y [] hy.4)

  digits_part : (c x y : ℕ) → (x ≡ c → ⊥) → (y ≡ c → ⊥) → parts_of c (plain x ∷ plain y ∷ []) ≡ (x ∷ y ∷ []) ∷ []
  digits_part c x y nx ny = parts_other c x (plain y ∷ []) nx ∙ ap (ahead (x ∷ [])) (parts_other c y [] ny)

  module _ (short : length a + length b + 6 ≤ 1024) (seen : first_invisible (row a b 48 48 48) ≡ None) (ta : List Token) (goes : (u : List ℕ) → tokens (a ++ (47 ∷ u)) ≡ ta ++ tokens u) where
    after_mark : (d : ℕ) → digit d ≡ true → tokens (composed a d b) ≡ ta ++ (plain d ∷ plain 47 ∷ tokens (b ++ (47 ∷ digits a b d)))
    after_mark d h =
        ap tokens (is_row d) ∙ goes (d ∷ 47 ∷ (b ++ (47 ∷ digits a b d)))
        ∙ ap (λ (ts : List Token). ta ++ ts) (tokens_plain d (47 ∷ (b ++ (47 ∷ digits a b d))) (tame_digit d h).4 ∙ ap (λ (ts : List Token). plain d ∷ ts) (tokens_plain 47 (b ++ (47 ∷ digits a b d)) (λ e. omega arith)))

    stopped : (q : ℕ) → ((u : List ℕ) → first_broken (tokens (b ++ (47 ∷ u))) ≡ Some q) → Judged a b
    stopped q f =
        let at = past_some ta (1 + (1 + q)) in
        refused 3 at.0
        (λ d h. broken_read (composed a d b) at.0 (short_line d short) (seen_line d h ∙ seen)
        (ap first_broken (after_mark d h) ∙ broken_past ta _ ∙ ap (λ (o : Option ℕ). past ta (further 1 (further 1 o))) (f (digits a b d)) ∙ at.1))

    module _ (none_a : first_broken ta ≡ None) (text_a : text ta ≡ a ++ (47 ∷ [])) (tb : List Token) (goes_b : (u : List ℕ) → tokens (b ++ (47 ∷ u)) ≡ tb ++ tokens u) (none_b : first_broken tb ≡ None) (text_b : text tb ≡ b ++ (47 ∷ [])) where
      end_tokens : (d : ℕ) → tokens (b ++ (47 ∷ digits a b d)) ≡ tb ++ plain_digits a b d
      end_tokens d = let t = digits_tame d in goes_b (digits a b d) ∙ ap (λ (ts : List Token). tb ++ ts) (digits_plain _ _ t.0 t.1.0)

      all_tokens : (d : ℕ) → digit d ≡ true → tokens (composed a d b) ≡ ta ++ (plain d ∷ plain 47 ∷ (tb ++ plain_digits a b d))
      all_tokens d h = after_mark d h ∙ ap (λ (ts : List Token). ta ++ (plain d ∷ plain 47 ∷ ts)) (end_tokens d)

      whole : Whole a b (parts_of 47 ta) (parts_of 47 tb)
      whole = record {
        short = short;
        seen = λ d h. seen_line d h ∙ seen;
        unbroken = λ d h.
            ap first_broken (all_tokens d h) ∙ broken_past ta _
            ∙ ap (λ (o : Option ℕ). past ta (further 1 (further 1 o))) (broken_past tb _ ∙ past_none tb ∙ none_b) ∙ past_none ta ∙ none_a;
        cut = λ d h.
            let t = digits_tame d in
            ap (parts_of 47) (all_tokens d h) ∙ parts_glue 47 ta _
            ∙ ap (glue (parts_of 47 ta))
            (parts_other 47 d (plain 47 ∷ (tb ++ plain_digits a b d)) (tame_digit d h).3 ∙ ap (ahead (d ∷ [])) (parts_here 47 47 (tb ++ plain_digits a b d) refl)
            ∙ ap (λ (ps : List (List ℕ)). (d ∷ []) ∷ ps) (parts_glue 47 tb (plain_digits a b d) ∙ ap (glue (parts_of 47 tb)) (digits_part 47 _ _ t.0.3 t.1.0.3)));
        some_a = parts_cons 47 ta;
        some_b = parts_cons 47 tb;
        text_a = parts_text 47 ta ∙ text_a;
        text_b = parts_text 47 tb ∙ text_b;
        open_end = λ d h.
            let t = digits_tame d in
            ap (λ (s : List ℕ). fields_of s) (append_assoc b (47 ∷ []) (digits a b d))
            ∙ ap (λ (ts : List Token). first_and_later (all_ended (parts_of 58 ts))) (end_tokens d)
            ∙ ap (λ (ps : List (List ℕ)). first_and_later (all_ended ps)) (parts_glue 58 tb (plain_digits a b d) ∙ ap (glue (parts_of 58 tb)) (digits_part 58 _ _ t.0.2 t.1.0.2))
            ∙ ap first_and_later (unended (parts_of 58 tb) _ _);
      }

  by_ends : length a + length b + 6 ≤ 1024 → first_invisible (row a b 48 48 48) ≡ None → Ends a → Ends b → Judged a b
  by_ends short seen (stops p f) eb =
      refused 3 p (λ d h. broken_read (composed a d b) p (short_line d short) (seen_line d h ∙ seen) (ap (λ (s : List ℕ). first_broken (tokens s)) (is_row d) ∙ f _))
  by_ends short seen (goes_on ta fa na xa) (stops q g) = stopped short seen ta fa q g
  by_ends short seen (goes_on ta fa na xa) (goes_on tb fb nb xb) = by_cut (parts_of 47 ta) (parts_of 47 tb) (whole short seen ta fa na xa tb fb nb xb)

pub judged : (a b : List ℕ) → Judged a b
judged a b = go (leb (length a + length b + 6) 1024) refl (first_invisible (row a b 48 48 48)) refl
  where
    go : (t : Bool) → leb (length a + length b + 6) 1024 ≡ t → (o : Option ℕ) → first_invisible (row a b 48 48 48) ≡ o → Judged a b
    go false p o e =
        let long = leb-false (length a + length b + 6) 1024 p in
        refused 1 1024 (λ d h. too_long_read (composed a d b) (lt-leb (length (composed a d b)) 1024 (omega (arith, composed_length a b d))))
    go true p (Some q) e = refused 2 q (λ d h. invisible_read (composed a d b) q (short_line a b d (leb-true (length a + length b + 6) 1024 p)) (seen_line a b d h ∙ e))
    go true p None e = by_ends a b (leb-true (length a + length b + 6) 1024 p) e (ends a) (ends b)

-- ---- what follows for every digit
byte_list_passes : (f : List ℕ) → AllByRecursion (λ b. b < 256) f → every (λ b. ltb b 256) f ≡ true
byte_list_passes [] h = refl
byte_list_passes (b ∷ f) h = rw (lt-ltb b 256 h.0) (byte_list_passes f h.1)

bytes_pass : (fs : List (List ℕ)) → Bytes fs → all_bytes fs ≡ true
bytes_pass [] h = refl
bytes_pass (f ∷ fs) h = rw (byte_list_passes f h.0) (bytes_pass fs h.1)

pub untold : DigitUntold
untold a b d e hd he = go (judged a b)
  where
    go : Judged a b → request_read a e b ≡ marked e (request_read a d b)
    go (refused n p f) = f e he ∙ ap (marked e) (sym (f d hd))
    go (accepted x fs f) = (f e he).reads ∙ ap (marked e) (sym (f d hd).reads)

pub sends : Sends
sends a b d m hd e = go (judged a b)
  where
    go : Judged a b → Ready d m
    go (refused n p f) = let g = f d hd in let z : ◌≡◌ {A = ℕ} 0 1 = cc in absurd (omega arith)
    go (accepted x fs f) =
        let g = (f d hd).reads in
        let is : record { side = command; address = x; mark = d; fields = fs } ≡ m = cc in
        let w = writes_again command (composed a d b) m e in
        let short : length (composed a d b) ≤ 1024 = fits_read (composed a d b) m e in
        let fits : sendable m ≡ true = w.sends ∙ le-leb (length (canonical m)) 1024 (omega (arith, w.no_longer (f d hd).checked)) in
        let is_one : is_command m.side ≡ true = ap (λ (k : Message). is_command k.side) (sym is) in
        record { mark = ap (λ (k : Message). k.mark) (sym is); sends = rw (is_one, bytes_pass m.fields w.bytes) fits }
