-- What was read can be written again, and two messages are not written alike.
use Rattle.std.proofs.Common.{◌≡◌, ℕ, ◌+◌, ◌<◌, ◌≤◌, Bool, true, false, cond, leb, List, [], ◌∷◌, ◌++◌, map, length, take, is_some, Some, None, Option, sym, refl, ap, ◌∙◌, subst, arith, length-append}
use Rattle.std.proofs.lemmas.Bool.{leb-true}
use Rattle.std.specs.List.{AllByRecursion}
use Rattle.escape.specs.Tokens.{digit, tokens, first_broken, further, parts, resolved}
use Rattle.escape.specs.Spelling.{spelling}
use Rattle.escape.proofs.Chunks.{Seen, chunk_tame, chunk_means, at_colon, tame_spelling}
use Rattle.line.specs.Forms.{Side, command, answer, Address, visible, capital, address_of, is_mark, mark_of, check_of, is_name, is_status, is_first_field}
use Rattle.line.specs.Lines.{Message, meant, faulty, Parts, parted, mark_place, body_place, check_place, one_more, all_ended, first_and_later, fields_of, first_invisible, unless_at, or_fault, unless_number, check_fault, body_read, parts_read, reading}
use Rattle.writer.specs.Canonical.{in_two_digits, address_text, ended, body_text, head_text, closed, canonical, is_address, first_formed, formed, sendable}
use Rattle.writer.specs.Laws.{Bytes, OneMessage, keeps_check, has_check, WrittenAgain, WritesAgain}
use Rattle.writer.proofs.Addresses.{both, never, digit_bounds, address_was}
use Rattle.writer.proofs.Backs.{tame_first, body_fields_of, parts_of_canonical, reads_back}
use Rattle.writer.proofs.Shorter.{Plainly, Outside, no_longer, resolved_bytes, total, spread, parts_left, seen_plainly}

-- ---- what a line was, if it means a message
pub record WasRead (side : Side) (line : List ℕ) (m : Message) : Type 0 where
  pub part : Parts
  pub field : List ℕ × List (List ℕ)
  pub seen : first_invisible line ≡ None
  pub cut : parted side (parts 47 line) ≡ Some part
  pub address : address_of side part.address ≡ Some m.address
  pub mark : mark_of side part.mark ≡ Some m.mark
  pub check : check_fault (take (check_place part) line) part.check ≡ None
  pub body : fields_of part.body ≡ Some field
  pub first : is_first_field side field.0 ≡ true
  pub is : m ≡ record { side = side; address = m.address; mark = m.mark; fields = field.0 ∷ map resolved field.1 }

not_faulty : {X : Type 0} (n p : ℕ) (m : Message) → faulty n p ≡ meant m → X
not_faulty n p m e = let z : ◌≡◌ {A = ℕ} 0 1 = cc in absurd (omega arith)

module _ (side : Side) (line : List ℕ) (m : Message) where
  by_body : (p : Parts) (a : Address) (k : ℕ) → first_invisible line ≡ None → parted side (parts 47 line) ≡ Some p → address_of side p.address ≡ Some a → mark_of side p.mark ≡ Some k → check_fault (take (check_place p) line) p.check ≡ None
      → body_read side a k p ≡ meant m → WasRead side line m
  by_body p a k seen cut ea ek ec e = go (fields_of p.body) refl e
    where
      formed_first : (f : List ℕ × List (List ℕ)) → fields_of p.body ≡ Some f → (t : Bool) → is_first_field side f.0 ≡ t
          → cond t (meant (record { side = side; address = a; mark = k; fields = f.0 ∷ map resolved f.1 })) (faulty 10 (body_place p)) ≡ meant m → WasRead side line m
      formed_first f ef true t e =
          let same : record { side = side; address = a; mark = k; fields = f.0 ∷ map resolved f.1 } ≡ m = cc in
          subst (WasRead side line) same (record { part = p; field = f; seen = seen; cut = cut; address = ea; mark = ek; check = ec; body = ef; first = t; is = refl })
      formed_first f ef false t e = not_faulty 10 (body_place p) m e

      go : (o : Option (List ℕ × List (List ℕ))) → fields_of p.body ≡ o
          → or_fault o 9 (body_place p) (λ f. cond (is_first_field side f.0) (meant (record { side = side; address = a; mark = k; fields = f.0 ∷ map resolved f.1 })) (faulty 10 (body_place p))) ≡ meant m → WasRead side line m
      go None ef e = not_faulty 9 (body_place p) m e
      go (Some f) ef e = formed_first f ef (is_first_field side f.0) refl e

  by_parts : (p : Parts) → first_invisible line ≡ None → parted side (parts 47 line) ≡ Some p → parts_read side p (take (check_place p) line) ≡ meant m → WasRead side line m
  by_parts p seen cut e = go (address_of side p.address) refl (mark_of side p.mark) refl (check_fault (take (check_place p) line) p.check) refl e
    where
      go : (a : Option Address) → address_of side p.address ≡ a → (k : Option ℕ) → mark_of side p.mark ≡ k → (c : Option ℕ) → check_fault (take (check_place p) line) p.check ≡ c
          → or_fault a 5 0 (λ a. or_fault k 6 (mark_place p) (λ k. unless_number c (check_place p) (body_read side a k p))) ≡ meant m → WasRead side line m
      go (Some a) ea (Some k) ek None ec e = by_body p a k seen cut ea ek ec e
      go (Some a) ea (Some k) ek (Some n) ec e = not_faulty n (check_place p) m e
      go (Some a) ea None ek c ec e = not_faulty 6 (mark_place p) m e
      go None ea k ek c ec e = not_faulty 5 0 m e

  pub was_read : reading side line ≡ meant m → WasRead side line m
  was_read e = go (leb (length line) 1024) (first_invisible line) refl (first_broken (tokens line)) (parted side (parts 47 line)) refl e
    where
      go : (s : Bool) (v : Option ℕ) → first_invisible line ≡ v → (b : Option ℕ) (p : Option Parts) → parted side (parts 47 line) ≡ p
          → cond s (unless_at v 2 (unless_at b 3 (or_fault p 4 (length line) (λ p. parts_read side p (take (check_place p) line))))) (faulty 1 1024) ≡ meant m → WasRead side line m
      go true None ev None (Some p) ep e = by_parts p ev ep e
      go true None ev None None ep e = not_faulty 4 (length line) m e
      go true None ev (Some n) p ep e = not_faulty 3 n m e
      go true (Some n) ev b p ep e = not_faulty 2 n m e
      go false v ev b p ep e = not_faulty 1 1024 m e

-- ---- the parts of the line
all_seen : (s : List ℕ) → first_invisible s ≡ None → AllByRecursion Seen s
all_seen [] e = tt
all_seen (b ∷ s) e = go (visible b) refl e (λ h. all_seen s h)
  where
    nothing : (o : Option ℕ) → further 1 o ≡ None → o ≡ None
    nothing None e = refl
    nothing (Some n) e = let z : ◌≡◌ {A = ℕ} 0 1 = cc in absurd (omega arith)

    go : (v : Bool) → visible b ≡ v → ◌≡◌ {A = Option ℕ} (elim v [ true ↦ further 1 (first_invisible s) | false ↦ Some 0 ]) None → (first_invisible s ≡ None → AllByRecursion Seen s) → Seen b × AllByRecursion Seen s
    go true v e later = let h = both (leb 32 b) (leb b 126) v in ((leb-true 32 b h.0, leb-true b 126 h.1), later (nothing (first_invisible s) e))
    go false v e later = let z : ◌≡◌ {A = ℕ} 0 1 = cc in absurd (omega arith)

-- three parts, or four
pub data CutAs (p : Parts) : List (List ℕ) → Type 0 where
  in_three : p.check ≡ None → CutAs p (p.address ∷ p.mark ∷ p.body ∷ [])
  in_four : (c : List ℕ) → p.check ≡ Some c → CutAs p (p.address ∷ p.mark ∷ p.body ∷ c ∷ [])

cut_as : (side : Side) (ps : List (List ℕ)) (p : Parts) → parted side ps ≡ Some p → CutAs p ps
cut_as side [] p e = let z : ◌≡◌ {A = ℕ} 0 1 = cc in absurd (omega arith)
cut_as side (a ∷ []) p e = let z : ◌≡◌ {A = ℕ} 0 1 = cc in absurd (omega arith)
cut_as side (a ∷ m ∷ []) p e = let z : ◌≡◌ {A = ℕ} 0 1 = cc in absurd (omega arith)
cut_as command (a ∷ m ∷ b ∷ []) p e = let same : record { address = a; mark = m; body = b; check = None } ≡ p = cc in subst (λ (q : Parts). CutAs q (a ∷ m ∷ b ∷ [])) same (in_three refl)
cut_as answer (a ∷ m ∷ b ∷ []) p e = let z : ◌≡◌ {A = ℕ} 0 1 = cc in absurd (omega arith)
cut_as side (a ∷ m ∷ b ∷ c ∷ []) p e = let same : record { address = a; mark = m; body = b; check = Some c } ≡ p = cc in subst (λ (q : Parts). CutAs q (a ∷ m ∷ b ∷ c ∷ [])) same (in_four c refl)
cut_as side (a ∷ m ∷ b ∷ c ∷ d ∷ ps) p e = let z : ◌≡◌ {A = ℕ} 0 1 = cc in absurd (omega arith)

one_mark : (side : Side) (s : List ℕ) (k : ℕ) → mark_of side s ≡ Some k → (length s ≡ 1) × (is_mark side k ≡ true)
one_mark side [] k e = let z : ◌≡◌ {A = ℕ} 0 1 = cc in absurd (omega arith)
one_mark side (x ∷ []) k e = go (is_mark side x) refl e
  where
    go : (t : Bool) → is_mark side x ≡ t → cond t (Some x) None ≡ Some k → (length (x ∷ []) ≡ 1) × (is_mark side k ≡ true)
    go true t e = let s : x ≡ k = cc in (omega arith, subst (λ (y : ℕ). is_mark side y ≡ true) s t)
    go false t e = let z : ◌≡◌ {A = ℕ} 0 1 = cc in absurd (omega arith)
one_mark side (x ∷ y ∷ s) k e = let z : ◌≡◌ {A = ℕ} 0 1 = cc in absurd (omega arith)

two_long : (summed c : List ℕ) → check_fault summed (Some c) ≡ None → length c ≡ 2
two_long summed [] e = let z : ◌≡◌ {A = ℕ} 0 1 = cc in absurd (omega arith)
two_long summed (a ∷ []) e = let z : ◌≡◌ {A = ℕ} 0 1 = cc in absurd (omega arith)
two_long summed (a ∷ b ∷ []) e = omega arith
two_long summed (a ∷ b ∷ c ∷ s) e = let z : ◌≡◌ {A = ℕ} 0 1 = cc in absurd (omega arith)

-- ---- the body
ended_parts : (ps fs : List (List ℕ)) → all_ended ps ≡ Some fs → ps ≡ fs ++ ([] ∷ [])
ended_parts [] fs e = let z : ◌≡◌ {A = ℕ} 0 1 = cc in absurd (omega arith)
ended_parts ([] ∷ []) fs e = let s : [] ≡ fs = cc in ap (λ (x : List (List ℕ)). x ++ ([] ∷ [])) s
ended_parts ((b ∷ s) ∷ []) fs e = let z : ◌≡◌ {A = ℕ} 0 1 = cc in absurd (omega arith)
ended_parts (p ∷ q ∷ ps) fs e = go (all_ended (q ∷ ps)) refl e (λ gs h. ended_parts (q ∷ ps) gs h)
  where
    go : (o : Option (List (List ℕ))) → all_ended (q ∷ ps) ≡ o → one_more p o ≡ Some fs → ((gs : List (List ℕ)) → all_ended (q ∷ ps) ≡ Some gs → q ∷ ps ≡ gs ++ ([] ∷ [])) → p ∷ q ∷ ps ≡ fs ++ ([] ∷ [])
    go None h e later = let z : ◌≡◌ {A = ℕ} 0 1 = cc in absurd (omega arith)
    go (Some gs) h e later = let s : p ∷ gs ≡ fs = cc in ap (λ (x : List (List ℕ)). p ∷ x) (later gs h) ∙ ap (λ (x : List (List ℕ)). x ++ ([] ∷ [])) s

pub body_parts : (body : List ℕ) (f : List ℕ × List (List ℕ)) → fields_of body ≡ Some f → parts 58 body ≡ (f.0 ∷ f.1) ++ ([] ∷ [])
body_parts body f e = go (all_ended (parts 58 body)) refl e
  where
    go : (o : Option (List (List ℕ))) → all_ended (parts 58 body) ≡ o → first_and_later o ≡ Some f → parts 58 body ≡ (f.0 ∷ f.1) ++ ([] ∷ [])
    go None h e = let z : ◌≡◌ {A = ℕ} 0 1 = cc in absurd (omega arith)
    go (Some []) h e = let z : ◌≡◌ {A = ℕ} 0 1 = cc in absurd (omega arith)
    go (Some (g ∷ gs)) h e = let s : (g, gs) ≡ f = cc in ended_parts (parts 58 body) (g ∷ gs) h ∙ ap (λ (x : List ℕ × List (List ℕ)). (x.0 ∷ x.1) ++ ([] ∷ [])) s

total_more : (fs : List (List ℕ)) → total (fs ++ ([] ∷ [])) ≡ total fs + 1
total_more [] = omega arith
total_more (f ∷ fs) = omega (arith, total_more fs)

before : (P : List ℕ → Type 0) (fs gs : List (List ℕ)) → AllByRecursion P (fs ++ gs) → AllByRecursion P fs
before P [] gs h = tt
before P (f ∷ fs) gs h = (h.0, before P fs gs h.1)

shorter_body : (fs : List (List ℕ)) → AllByRecursion (λ f. Plainly Outside (tokens f)) fs → length (body_text (map resolved fs)) ≤ total fs
shorter_body [] h = omega arith
shorter_body (f ∷ fs) h =
    omega (arith, length-append (ended (resolved f)) (body_text (map resolved fs)), length-append (spelling (resolved f)) (58 ∷ []), no_longer f h.0, shorter_body fs h.1)

bytes_of : (fs : List (List ℕ)) → AllByRecursion (λ f. Plainly Outside (tokens f)) fs → Bytes (map resolved fs)
bytes_of [] h = tt
bytes_of (f ∷ fs) h = (resolved_bytes f h.0, bytes_of fs h.1)

-- ---- writing what was read
abbrev Slashless : ℕ → Type 0
Slashless b = Seen b × (b ≡ 47 → ⊥)

body_left : (p : Parts) (ps : List (List ℕ)) → CutAs p ps → AllByRecursion (λ q. Plainly Slashless (tokens q)) ps → Plainly Slashless (tokens p.body)
body_left p ps (in_three e) h = h.1.1.0
body_left p ps (in_four c e) h = h.1.1.0

-- how long the line was, and that it had a check
sized : (p : Parts) (ps : List (List ℕ)) (summed : List ℕ) (n : ℕ) → CutAs p ps → total ps ≡ n + 1 → length p.mark ≡ 1 → check_fault summed p.check ≡ None
    → (length p.address + length p.body + 3 ≤ n) × (is_some p.check ≡ true → length p.address + length p.body + 6 ≤ n)
sized p ps summed n (in_three e) t one fault = (omega arith, λ c. never (ap (λ (o : Option (List ℕ)). is_some o) (sym e) ∙ c))
sized p ps summed n (in_four c e) t one fault =
    let two : length c ≡ 2 = two_long summed c (ap (check_fault summed) (sym e) ∙ fault) in
    (omega arith, λ h. omega arith)

pub canonical_length : (a b : List ℕ) (k : ℕ) → length (closed (head_text a k ++ b)) ≡ length a + length b + 6
canonical_length a b k =
    omega (arith, length-append (head_text a k ++ b) (47 ∷ in_two_digits (check_of ((head_text a k ++ b) ++ (47 ∷ [])))), length-append (head_text a k) b, length-append a (47 ∷ k ∷ 47 ∷ []))

again : (side : Side) (line : List ℕ) (m : Message) (w : WasRead side line m)
    → WrittenAgain line (has_check side line) (record { side = side; address = m.address; mark = m.mark; fields = w.field.0 ∷ map resolved w.field.1 })
again side line m w =
    let p = w.part in
    let f = w.field.0 in
    let fs = w.field.1 in
    let cut = cut_as side (parts 47 line) p w.cut in
    let left = body_left p (parts 47 line) cut (parts_left Seen 47 line (seen_plainly line (all_seen line w.seen))) in
    let split = body_parts p.body w.field w.body in
    let fields : AllByRecursion (λ q. Plainly Outside (tokens q)) (f ∷ fs) =
    before (λ q. Plainly Outside (tokens q)) (f ∷ fs) ([] ∷ []) (subst (λ (ps : List (List ℕ)). AllByRecursion (λ q. Plainly Outside (tokens q)) ps) split (parts_left Slashless 58 p.body left)) in
    let tame = tame_first side f w.first in
    let same : resolved f ≡ f = chunk_means 58 f f (chunk_tame 58 f at_colon tame) in
    let was = address_was side p.address m.address w.address in
    let mark = one_mark side p.mark m.mark w.mark in
    let size = sized p (parts 47 line) (take (check_place p) line) (length line) cut (spread 47 line) mark.0 w.check in
    let body : length (body_text (f ∷ map resolved fs)) ≤ length p.body =
    omega (arith, ap (λ (x : List ℕ). length (body_text (x ∷ map resolved fs))) same, shorter_body (f ∷ fs) fields, ap total split, total_more (f ∷ fs), spread 58 p.body) in
    let len = canonical_length (address_text m.address) (body_text (f ∷ map resolved fs)) m.mark in
    let text = ap length was.text in
    let form : formed (record { side = side; address = m.address; mark = m.mark; fields = f ∷ map resolved fs }) ≡ true = rw (was.form, mark.1) w.first in
    record {
      form = form;
      bytes = (subst (λ (x : List ℕ). AllByRecursion (λ b. b < 256) x) same (resolved_bytes f fields.0), bytes_of fs fields.1);
      sends = rw form;
      no_longer = λ checked. omega (arith, size.1 (subst (λ (o : Option Parts). keeps_check o ≡ true) w.cut checked));
      with_check = omega (arith, size.0);
    }

pub writes_again : WritesAgain
writes_again side line m e = let w = was_read side line m e in subst (WrittenAgain line (has_check side line)) (sym w.is) (again side line m w)

-- ---- one line, one message
letter_digit : {X : Type 0} (a : ℕ) → capital a ≡ true → digit a ≡ true → X
letter_digit a p q =
    let h = both (leb 65 a) (leb a 90) p in
    let low = leb-true 65 a h.0 in
    let k = digit_bounds a q in
    absurd (omega arith)

-- no name is a status
name_status : {X : Type 0} (f : List ℕ) → is_name f ≡ true → is_status f ≡ true → X
name_status [] p q = never p
name_status (a ∷ []) p q = never q
name_status (a ∷ b ∷ []) p q = never q
name_status (a ∷ b ∷ c ∷ []) p q = letter_digit a (both (capital a) _ p).0 (both (digit a) _ q).0
name_status (a ∷ b ∷ c ∷ d ∷ s) p q = never q

one_side : (s t : Side) (f : List ℕ) → is_first_field s f ≡ true → is_first_field t f ≡ true → s ≡ t
one_side command command f p q = refl
one_side answer answer f p q = refl
one_side command answer f p q = name_status f p q
one_side answer command f p q = name_status f q p

pub record FormsOf (m : Message) (f : List ℕ) (fs : List (List ℕ)) : Type 0 where
  pub address : is_address m.side m.address ≡ true
  pub mark : is_mark m.side m.mark ≡ true
  pub first : is_first_field m.side f ≡ true
  pub bytes : Bytes (f ∷ fs)
  pub fields : m.fields ≡ f ∷ fs

forms_of : (m : Message) → sendable m ≡ true → Bytes m.fields → (f : List ℕ) × (fs : List (List ℕ)) × FormsOf m f fs
forms_of m ok hb =
    let h = both (formed m) (leb (length (canonical m)) 1024) ok in
    let g = both (is_address m.side m.address) _ h.0 in
    let k = both (is_mark m.side m.mark) (first_formed m.side m.fields) g.1 in
    go m.fields refl g.0 k.0 k.1 hb
  where
    go : (gs : List (List ℕ)) → m.fields ≡ gs → is_address m.side m.address ≡ true → is_mark m.side m.mark ≡ true → first_formed m.side gs ≡ true → Bytes gs → (f : List ℕ) × (fs : List (List ℕ)) × FormsOf m f fs
    go [] e a k p b = never p
    go (f ∷ fs) e a k p b = (f, fs, record { address = a; mark = k; first = p; bytes = b; fields = e })

-- the body in a canonical line, and the first field in that
body_in : (m : Message) (f : List ℕ) (fs : List (List ℕ)) (w : FormsOf m f fs) → parts 47 (canonical m) ≡ address_text m.address ∷ (m.mark ∷ []) ∷ body_text (f ∷ fs) ∷ in_two_digits (check_of ((head_text (address_text m.address) m.mark ++ body_text (f ∷ fs)) ++ (47 ∷ []))) ∷ []
body_in m f fs w =
    ap (λ (gs : List (List ℕ)). parts 47 (closed (head_text (address_text m.address) m.mark ++ body_text gs))) w.fields
    ∙ parts_of_canonical m.side m.address m.mark f fs w.address w.mark w.bytes

thirds : (a b c d e f g h : List ℕ) → ◌≡◌ {A = List (List ℕ)} (a ∷ b ∷ c ∷ d ∷ []) (e ∷ f ∷ g ∷ h ∷ []) → c ≡ g
thirds a b c d e f g h q = cc

firsts : (f g : List ℕ) (fs gs : List (List ℕ)) → ◌≡◌ {A = Option (List ℕ × List (List ℕ))} (Some (f, fs)) (Some (g, gs)) → f ≡ g
firsts f g fs gs q = let r : ◌≡◌ {A = List ℕ × List (List ℕ)} (f, fs) (g, gs) = cc in ap (λ (x : List ℕ × List (List ℕ)). x.0) r

first_in : (m n : Message) (f g : List ℕ) (fs gs : List (List ℕ)) → FormsOf m f fs → FormsOf n g gs → canonical m ≡ canonical n → f ≡ g
first_in m n f g fs gs v w e =
    let bodies : body_text (f ∷ fs) ≡ body_text (g ∷ gs) = thirds _ _ _ _ _ _ _ _ (sym (body_in m f fs v) ∙ ap (parts 47) e ∙ body_in n g gs w) in
    let spelt : spelling f ≡ spelling g = firsts (spelling f) (spelling g) (map spelling fs) (map spelling gs) (sym (body_fields_of f fs v.bytes) ∙ ap fields_of bodies ∙ body_fields_of g gs w.bytes) in
    sym (tame_spelling f (tame_first m.side f v.first)) ∙ spelt ∙ tame_spelling g (tame_first n.side g w.first)

same_meant : (m n : Message) → meant m ≡ meant n → m ≡ n
same_meant m n e = cc

pub one_message : OneMessage
one_message m n om on bm bn e =
    let v = forms_of m om bm in
    let w = forms_of n on bn in
    let first = first_in m n v.0 w.0 v.1 w.1 v.2 w.2 e in
    let side : m.side ≡ n.side = one_side m.side n.side v.0 v.2.first (subst (λ (f : List ℕ). is_first_field n.side f ≡ true) (sym first) w.2.first) in
    let read : meant m ≡ meant n = sym (reads_back m om bm) ∙ ap (λ (s : Side). reading s (canonical m)) side ∙ ap (reading n.side) e ∙ reads_back n on bn in
    same_meant m n read
