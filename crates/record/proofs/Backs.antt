-- What is written of a record is read back.
use Rattle.std.proofs.Common.{◌≡◌, ℕ, zero, suc, ◌+◌, ◌-◌, ◌*◌, ◌/◌, ◌%◌, ◌^◌, ◌<◌, ◌≤◌, Bool, true, false, cond, leb, List, [], ◌∷◌, ◌++◌, length, take, drop, Some, None, Ok, Err, codes, Option, Result, MatchResult, OnOk, if◌then◌else◌, sym, refl, ap, ◌∙◌, subst, mod-lt, mod-eq_of_lt, mul_assoc, add-mul, arith, pow-add}
use native.Mathlib.Nat.{pow-le-pow_right}
use lib.Arith.{mod-mul}
use Rattle.std.specs.Borrow.{Bor}
use Rattle.std.proofs.lemmas.Bool.{le-leb, leb-true, eq-eqb}
use Rattle.escape.specs.Tokens.{digit}
use Rattle.escape.specs.Texts.{same_bytes}
use Rattle.line.specs.Forms.{answer}
use Rattle.line.specs.Reads.{behind}
use Rattle.line.specs.Lines.{Message}
use Rattle.line.specs.declared.fault.Fault.{Fault}
use Rattle.line.specs.declared.fault.Fault.TheVariants.{RecordForm}
use Rattle.writer.specs.Writing.{Called, begun, with_fields, all_fault}
use Rattle.writer.specs.declared.page.Writer.{Writer}
use Rattle.record.specs.Records.{is_kind, if_kind, field_of, else_wrong, mode_numbered, mode_of, number_in, count_in, mode_in, speed_in, texts, play_status, overview}
use Rattle.record.specs.Writes.{mode_number, status_fields, title_fields, overview_fields, wrong_status, unless_wrong, within, part, Adds, Written, Alone, StatusBack, TitleRead, TitleBack, OverviewRead, OverviewBack}
use Rattle.record.specs.declared.mode.PlayMode.{PlayMode}
use Rattle.record.specs.declared.mode.PlayMode.TheVariants.{NothingPlaying, Paused, Playing, ForwardScan, ReverseScan}
use Rattle.record.specs.declared.play_status.PlayStatus.{PlayStatus}
use Rattle.record.specs.declared.span.Span.{Span}
use Rattle.numeral.specs.Numbers.{spelled_on, numeral, at_most, counted, in_digits, width_of, in_count}

-- ---- numbers
is_digit : (d : ℕ) → d < 10 → digit (48 + d) ≡ true
is_digit d h = ap (λ (t : Bool). cond t (leb (48 + d) 57) false) (le-leb 48 (48 + d) (omega arith)) ∙ le-leb (48 + d) 57 (omega arith)

pub digits_length : (width n : ℕ) → length (in_digits width n) ≡ width
unfolding in_digits
digits_length zero n = refl
digits_length (suc width) n = ap suc (digits_length width n)

power_more : (width : ℕ) → 10 ^ suc width ≡ 10 * 10 ^ width
power_more width = let e : suc width ≡ 1 + width = omega arith in ap (λ (k : ℕ). 10 ^ k) e ∙ pow-add 10 1 width

power_some : (width : ℕ) → 0 < 10 ^ width
power_some width = let h = pow-le-pow_right {n = 10} (omega arith) {i = 0} {j = width} (omega arith) in omega arith

digits_spell : (width before n : ℕ) → spelled_on before (in_digits width n) ≡ Some (before * 10 ^ width + n % 10 ^ width)
unfolding spelled_on in_digits
digits_spell zero before n = ap Some (omega arith)
digits_spell (suc width) before n =
    let p = 10 ^ width in
    let d = n / p % 10 in
    let low : d < 10 = mod-lt (n / p) (omega arith) in
    let next : before * 10 + (48 + d - 48) ≡ before * 10 + d = omega arith in
    let split = mod-mul n {m = 10} {c = p} (omega arith) (power_some width) in
    let whole : (before * 10 + d) * p + n % p ≡ before * 10 ^ suc width + n % 10 ^ suc width =
    rw (power_more width) (omega (arith, add-mul (before * 10) d p, mul_assoc before 10 p, split)) in
    ap (λ (t : Bool). cond t (spelled_on (before * 10 + (48 + d - 48)) (in_digits width n)) None) (is_digit d low)
    ∙ ap (λ (k : ℕ). spelled_on k (in_digits width n)) next
    ∙ digits_spell width (before * 10 + d) n
    ∙ ap Some whole

digits_back : (width n : ℕ) → n < 10 ^ width → spelled_on 0 (in_digits width n) ≡ Some n
digits_back width n h = digits_spell width 0 n ∙ ap Some (omega (arith, mod-eq_of_lt h))

pub numeral_back : (width n : ℕ) → n < 10 ^ width → numeral width (in_digits width n) ≡ Some n
numeral_back width n h = ap (λ (t : Bool). cond t (spelled_on 0 (in_digits width n)) None) (eq-eqb (length (in_digits width n)) width (digits_length width n)) ∙ digits_back width n h

count_of_width : (width n : ℕ) → 1 ≤ width → width ≤ 5 → n < 10 ^ width → n ≤ 65535 → counted (in_digits width n) ≡ Some n
count_of_width width n some few h most =
    let size = digits_length width n in
    ap (λ (t : Bool). cond t (cond (leb (length (in_digits width n)) 5) (at_most 65535 (spelled_on 0 (in_digits width n))) None) None) (le-leb 1 (length (in_digits width n)) (omega arith))
    ∙ ap (λ (t : Bool). cond t (at_most 65535 (spelled_on 0 (in_digits width n))) None) (le-leb (length (in_digits width n)) 5 (omega arith))
    ∙ ap (at_most 65535) (digits_back width n h)
    ∙ ap (λ (t : Bool). cond t (Some n) None) (le-leb n 65535 most)

pub count_back : (n : ℕ) → n ≤ 65535 → counted (in_count n) ≡ Some n
unfolding in_count
count_back n most = go (leb n 9) refl (leb n 99) refl (leb n 999) refl (leb n 9999) refl
  where
    go : (a : Bool) → leb n 9 ≡ a → (b : Bool) → leb n 99 ≡ b → (c : Bool) → leb n 999 ≡ c → (d : Bool) → leb n 9999 ≡ d → counted (in_digits (cond a 1 (cond b 2 (cond c 3 (cond d 4 5)))) n) ≡ Some n
    go true e b eb c ec d ed = count_of_width 1 n (omega arith) (omega arith) (omega (arith, leb-true n 9 e)) most
    go false e true eb c ec d ed = count_of_width 2 n (omega arith) (omega arith) (omega (arith, leb-true n 99 eb)) most
    go false e false eb true ec d ed = count_of_width 3 n (omega arith) (omega arith) (omega (arith, leb-true n 999 ec)) most
    go false e false eb false ec true ed = count_of_width 4 n (omega arith) (omega arith) (omega (arith, leb-true n 9999 ed)) most
    go false e false eb false ec false ed = count_of_width 5 n (omega arith) (omega arith) (omega arith) most

-- ---- a play status read back
mode_back : (mode : PlayMode) → (mode_numbered (mode_number mode) ≡ Some mode) × (mode_number mode < 10)
mode_back NothingPlaying = (refl, omega arith)
mode_back Paused = (refl, omega arith)
mode_back Playing = (refl, omega arith)
mode_back ForwardScan = (refl, omega arith)
mode_back ReverseScan = (refl, omega arith)

record Fitting (s : PlayStatus) : Type 0 where
  pub speed : s.speed ≤ 3
  pub number : s.title_number < 10 ^ 2
  pub size : s.title_length < 10 ^ 5
  pub place : s.title_location < 10 ^ 5
  pub chapter : s.chapter_number < 10 ^ 3
  pub chapter_size : s.chapter_length < 10 ^ 5
  pub chapter_place : s.chapter_location < 10 ^ 5

fitting_status : (s : PlayStatus) → None ≡ wrong_status s → Fitting s
fitting_status s = go (leb s.speed 3) refl (leb s.title_number 99) refl (leb s.title_length 99999) refl (leb s.title_location 99999) refl (leb s.chapter_number 999) refl (leb s.chapter_length 99999) refl (leb s.chapter_location 99999) refl
  where
    go : (a : Bool) → leb s.speed 3 ≡ a → (b : Bool) → leb s.title_number 99 ≡ b → (c : Bool) → leb s.title_length 99999 ≡ c → (d : Bool) → leb s.title_location 99999 ≡ d
        → (f : Bool) → leb s.chapter_number 999 ≡ f → (g : Bool) → leb s.chapter_length 99999 ≡ g → (h : Bool) → leb s.chapter_location 99999 ≡ h
        → ◌≡◌ {A = Option ℕ} None (cond a (cond b (cond c (cond d (cond f (cond g (cond h None (Some 8)) (Some 7)) (Some 6)) (Some 5)) (Some 4)) (Some 3)) (Some 2)) → Fitting s
    go true ea true eb true ec true ed true ef true eg true eh e = record {
      speed = leb-true _ _ ea;
      number = omega (arith, leb-true _ _ eb);
      size = omega (arith, leb-true _ _ ec);
      place = omega (arith, leb-true _ _ ed);
      chapter = omega (arith, leb-true _ _ ef);
      chapter_size = omega (arith, leb-true _ _ eg);
      chapter_place = omega (arith, leb-true _ _ eh);
    }
    go true ea true eb true ec true ed true ef true eg false eh e = let z : ◌≡◌ {A = ℕ} 0 1 = cc in absurd (omega arith)
    go true ea true eb true ec true ed true ef false eg h eh e = let z : ◌≡◌ {A = ℕ} 0 1 = cc in absurd (omega arith)
    go true ea true eb true ec true ed false ef g eg h eh e = let z : ◌≡◌ {A = ℕ} 0 1 = cc in absurd (omega arith)
    go true ea true eb true ec false ed f ef g eg h eh e = let z : ◌≡◌ {A = ℕ} 0 1 = cc in absurd (omega arith)
    go true ea true eb false ec d ed f ef g eg h eh e = let z : ◌≡◌ {A = ℕ} 0 1 = cc in absurd (omega arith)
    go true ea false eb c ec d ed f ef g eg h eh e = let z : ◌≡◌ {A = ℕ} 0 1 = cc in absurd (omega arith)
    go false ea b eb c ec d ed f ef g eg h eh e = let z : ◌≡◌ {A = ℕ} 0 1 = cc in absurd (omega arith)

status_by_fields : (m : Message) (s : PlayStatus) → is_kind (codes "PLAY_STATUS") 8 m ≡ true → mode_in m ≡ Ok s.mode → speed_in m ≡ Ok s.speed
    → number_in m 3 2 ≡ Ok s.title_number → number_in m 4 5 ≡ Ok s.title_length → number_in m 5 5 ≡ Ok s.title_location
    → number_in m 6 3 ≡ Ok s.chapter_number → number_in m 7 5 ≡ Ok s.chapter_length → number_in m 8 5 ≡ Ok s.chapter_location → play_status m ≡ Ok s
status_by_fields m s k a b c d e f g h = rw (k, a, b, c, d, e, f, g, h)

-- a message of an answer with a status and the fields behind it
abbrev with_status : Message → List ℕ → List (List ℕ) → Message
with_status m status fields = record { side = m.side; address = m.address; mark = m.mark; fields = status ∷ fields }

pub alone_with : (m : Message) (fields : List (List ℕ)) → Alone m → (P : Message → Type 0) → ((status : List ℕ) → P (with_status m status fields)) → P (with_fields m fields)
unfolding with_fields
alone_with m fields a P h = go m.fields refl a.status
  where
    go : (fs : List (List ℕ)) → m.fields ≡ fs → length fs ≡ 1 → P (record { side = m.side; address = m.address; mark = m.mark; fields = m.fields ++ fields })
    go [] e n = absurd (omega arith)
    go (x ∷ y ∷ fs) e n = absurd (omega arith)
    go (x ∷ []) e n = rw e (h x)

kind_is : (m : Message) (status name : List ℕ) (fields : List (List ℕ)) (count : ℕ) → m.side ≡ answer → length fields ≡ count → same_bytes name name ≡ true → is_kind name count (with_status m status (name ∷ fields)) ≡ true
unfolding is_kind field_of
kind_is m status name fields count e n same = rw (e, same) (eq-eqb (suc (suc (length fields))) (count + 2) (omega arith))

same_self : (xs : List ℕ) → same_bytes xs xs ≡ true
same_self [] = refl
same_self (x ∷ xs) = rw (eq-eqb x x refl) (same_self xs)

pub status_back : (s : PlayStatus) → None ≡ wrong_status s → StatusBack s
unfolding status_fields field_of mode_in speed_in number_in
status_back s e m a = alone_with m (status_fields s) a (λ x. play_status x ≡ Ok s) (λ status.
    let w = fitting_status s e in
    let b = mode_back s.mode in
    status_by_fields (with_status m status (status_fields s)) s
    (kind_is m status (codes "PLAY_STATUS") _ 8 a.side refl (same_self (codes "PLAY_STATUS")))
    (ap (λ (o : Option ℕ). else_wrong 1 (mode_of o)) (numeral_back 1 (mode_number s.mode) (omega (arith, b.1))) ∙ ap (else_wrong 1) b.0)
    (ap (λ (o : Option ℕ). else_wrong 2 (at_most 3 o)) (numeral_back 1 s.speed (omega (arith, w.speed))) ∙ ap (λ (t : Bool). else_wrong 2 (cond t (Some s.speed) None)) (le-leb s.speed 3 w.speed))
    (ap (else_wrong 3) (numeral_back 2 s.title_number w.number))
    (ap (else_wrong 4) (numeral_back 5 s.title_length w.size))
    (ap (else_wrong 5) (numeral_back 5 s.title_location w.place))
    (ap (else_wrong 6) (numeral_back 3 s.chapter_number w.chapter))
    (ap (else_wrong 7) (numeral_back 5 s.chapter_length w.chapter_size))
    (ap (else_wrong 8) (numeral_back 5 s.chapter_location w.chapter_place)))

-- ---- what adding its fields promises of a record whose values fit
pub written_fields : (r : Result (Unit {0}) Fault) (wrong : Option ℕ) (given fields : List (List ℕ)) (before after : Writer) → true ≡ before.bare → None ≡ wrong → given ≡ fields
    → Called before after r (all_fault before.len given (length before.out.now)) false (Adds given before after) → Written wrong fields before after r
written_fields r wrong given fields before after b w e done = record {
  answer = rw (← b, ← w, ← e) done.answer;
  state = subst (λ (fs : List (List ℕ)). MatchResult r (λ _. Adds fs before after) (λ _. after ≡ before)) e done.state;
  bare = done.bare;
  lender = done.lender;
}

pub if_written : (r : Result (Unit {0}) Fault) (P : Type 0) → P → OnOk r P
if_written (Ok x) P p = p
if_written (Err f) P p = tt

-- ---- a title and an overview read back
pub title_back : (title : List ℕ) → TitleBack title
unfolding title_fields field_of
title_back title m a = alone_with m (title_fields title) a (TitleRead title) (λ status. record {
  text = refl;
  is = λ room h. rw (kind_is m status (codes "TITLE_NAME") (title ∷ []) 1 a.side refl (same_self (codes "TITLE_NAME")), le-leb (length title) room h);
})

pub overview_by_fields : (m : Message) (middle end lines total room : ℕ) → is_kind (codes "BROWSE_RESULTS_OVERVIEW") 4 m ≡ true → count_in m 3 ≡ Ok lines → count_in m 4 ≡ Ok total
    → middle ≡ length (field_of m 1) → end ≡ length (texts m) → leb (length (texts m)) room ≡ true
    → overview m room ≡ Ok (record { handle = record { start = 0; end = middle }; title = record { start = middle; end = end }; lines = lines; total = total })
overview_by_fields m middle end lines total room k a b first both fits = rw (k, a, b, fits, first, both) refl

-- a message that is not refused is of the kind
pub of_kind : (name : List ℕ) (count : ℕ) (m : Message) → ◌≡◌ {A = Result (Unit {0}) Fault} (Ok (tt {0})) (if_kind name count m (Ok (tt {0}))) → is_kind name count m ≡ true
of_kind name count m e = go (is_kind name count m) e
  where
    go : (t : Bool) → ◌≡◌ {A = Result (Unit {0}) Fault} (Ok (tt {0})) (cond t (Ok (tt {0})) (Err (RecordForm 0))) → t ≡ true
    go true e = refl
    go false e = cc

pub overview_back : (handle title : List ℕ) (lines total : ℕ) → counted (in_count lines) ≡ Some lines → counted (in_count total) ≡ Some total → OverviewBack handle title lines total
unfolding overview_fields field_of texts count_in
overview_back handle title lines total l t m a = alone_with m (overview_fields handle title lines total) a (OverviewRead handle title lines total) (λ status. record {
  text = refl;
  is = λ room h. overview_by_fields (with_status m status (overview_fields handle title lines total)) (length handle) (length (handle ++ title)) lines total room
      (kind_is m status (codes "BROWSE_RESULTS_OVERVIEW") (handle ∷ title ∷ in_count lines ∷ in_count total ∷ []) 4 a.side refl (same_self (codes "BROWSE_RESULTS_OVERVIEW")))
      (ap (else_wrong 3) l) (ap (else_wrong 4) t) refl refl (le-leb (length (handle ++ title)) room h);
})

-- ---- a text that lies in its buffer
pub text_there : (s : Span) (text : List ℕ) (o : Option (Bor (List ℕ))) (x : Bor (List ℕ)) → o ≡ Some x → behind o ≡ (if within s text then Some (part s text) else None) → (true ≡ within s text) × (x.now ≡ part s text)
text_there s text None x is e = cc
text_there s text (Some y) x is e = go (within s text) refl e
  where
    go : (t : Bool) → within s text ≡ t → Some y.now ≡ (if t then Some (part s text) else None) → (true ≡ within s text) × (x.now ≡ part s text)
    go true t e = let same : y ≡ x = cc in (sym t, ap (λ (b : Bor (List ℕ)). b.now) (sym same) ∙ cc)
    go false t e = cc

-- none of the values of a play status is refused
pub none_wrong : (wrong : Option ℕ) → None ≡ unless_wrong wrong None → None ≡ wrong
none_wrong None e = refl
none_wrong (Some place) e = cc

pub status_fields_are : (s : PlayStatus) (mode speed number size place chapter chapter_size chapter_place : List ℕ) → mode ≡ in_digits 1 (mode_number s.mode) → speed ≡ in_digits 1 s.speed
    → number ≡ in_digits 2 s.title_number → size ≡ in_digits 5 s.title_length → place ≡ in_digits 5 s.title_location
    → chapter ≡ in_digits 3 s.chapter_number → chapter_size ≡ in_digits 5 s.chapter_length → chapter_place ≡ in_digits 5 s.chapter_location
    → codes "PLAY_STATUS" ∷ mode ∷ speed ∷ number ∷ size ∷ place ∷ chapter ∷ chapter_size ∷ chapter_place ∷ [] ≡ status_fields s
unfolding status_fields
status_fields_are s mode speed number size place chapter chapter_size chapter_place a b c d e f g h = cc

-- the digits of a count are the last of five
pub count_digits : (n width : ℕ) (digits : List ℕ) → digits ≡ in_digits 5 n → width ≡ width_of n → take (5 - (5 - width)) (drop (5 - width) digits) ≡ in_count n
unfolding in_count in_digits
count_digits n width digits e w = rw (e, w) (go (leb n 9) (leb n 99) (leb n 999) (leb n 9999))
  where
    go : (a b c d : Bool) → let k : ℕ = cond a 1 (cond b 2 (cond c 3 (cond d 4 5))) in take (5 - (5 - k)) (drop (5 - k) (in_digits 5 n)) ≡ in_digits k n
    go true b c d = refl
    go false true c d = refl
    go false false true d = refl
    go false false false true = refl
    go false false false false = refl

pub title_fields_are : (title whole : List ℕ) → title ≡ whole → codes "TITLE_NAME" ∷ title ∷ [] ≡ title_fields whole
unfolding title_fields
title_fields_are title whole e = cc

pub overview_fields_are : (handle title lines total h t : List ℕ) (n k : ℕ) → handle ≡ h → title ≡ t → lines ≡ in_count n → total ≡ in_count k → codes "BROWSE_RESULTS_OVERVIEW" ∷ handle ∷ title ∷ lines ∷ total ∷ [] ≡ overview_fields h t n k
unfolding overview_fields
overview_fields_are handle title lines total h t n k eh et el ek = cc

-- ---- what a writer begins for an answer has its status alone
pub alone_begun : (address status : List ℕ) (mark : ℕ) → Alone (begun answer address mark status)
unfolding begun
alone_begun address status mark = record { side = refl; status = refl }
