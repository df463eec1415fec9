-- Addresses and their text: each form is read from its text, and is the text that it was read from.
use Rattle.std.proofs.Common.{◌≡◌, ℕ, ◌+◌, ◌-◌, ◌*◌, ◌/◌, ◌%◌, ◌<◌, ◌≤◌, Bool, true, false, cond, eqb, leb, List, [], ◌∷◌, ◌++◌, length, take, drop, Some, None, Option, refl, ap, ◌∙◌, subst, append-nil, arith, length-append, take-append-drop, length-take-le, take_at, drop_at}
use Rattle.std.proofs.lemmas.Bool.{leb-true, eqb-true, eqb-false, eq-eqb, ne_eqb, le-leb}
use Rattle.std.specs.List.{AllByRecursion}
use Rattle.escape.specs.Tokens.{digit}
use Rattle.escape.proofs.Chunks.{Tame}
use Rattle.line.specs.Forms.{Side, command, answer, Address, hex_digit, every, digit_pair, two_digits, unless_zero, serial_length, if_some, pair_length, device_length, zone_read, zone_of, with_zone, split_device, unaddressed, address_of}
use Rattle.writer.specs.Canonical.{in_two_digits, zone_text, address_text, is_length, is_device, is_zone, no_zone, is_address}

-- ---- tests that hold
pub both : (p q : Bool) → cond p q false ≡ true → (p ≡ true) × (q ≡ true)
both true q e = (refl, e)
both false q e = let z : ◌≡◌ {A = ℕ} 0 1 = cc in absurd (omega arith)

pub never : {X : Type 0} → false ≡ true → X
never e = let z : ◌≡◌ {A = ℕ} 0 1 = cc in absurd (omega arith)

some_if : {X : Type 0} (p : Bool) (o : Option X) (x : X) → cond p o None ≡ Some x → (p ≡ true) × (o ≡ Some x)
some_if true o x e = (refl, e)
some_if false o x e = let z : ◌≡◌ {A = ℕ} 0 1 = cc in absurd (omega arith)

pub digit_bounds : (b : ℕ) → digit b ≡ true → (48 ≤ b) × (b ≤ 57)
digit_bounds b e = let h = both (leb 48 b) (leb b 57) e in (leb-true 48 b h.0, leb-true b 57 h.1)

pub digit_is : (b : ℕ) → 48 ≤ b → b ≤ 57 → digit b ≡ true
digit_is b l h = rw (le-leb 48 b l) (le-leb b 57 h)

pub tame_digit : (b : ℕ) → digit b ≡ true → Tame b
tame_digit b e = let h = digit_bounds b e in (omega arith, omega arith, λ e. omega arith, λ e. omega arith, λ e. omega arith)

tame_hex : (b : ℕ) → hex_digit b ≡ true → Tame b
tame_hex b e = go (digit b) refl e
  where
    go : (d : Bool) → digit b ≡ d → cond d true (cond (leb 65 b) (leb b 70) false) ≡ true → Tame b
    go true d e = tame_digit b d
    go false d e =
        let h = both (leb 65 b) (leb b 70) e in
        let low = leb-true 65 b h.0 in
        let high = leb-true b 70 h.1 in
        (omega arith, omega arith, λ e. omega arith, λ e. omega arith, λ e. omega arith)

pub every_tame : (test : ℕ → Bool) → ((b : ℕ) → test b ≡ true → Tame b) → (s : List ℕ) → every test s ≡ true → AllByRecursion Tame s
every_tame test w [] e = tt
every_tame test w (b ∷ s) e = let h = both (test b) (every test s) e in (w b h.0, every_tame test w s h.1)

pub tame_both : (xs ys : List ℕ) → AllByRecursion Tame xs → AllByRecursion Tame ys → AllByRecursion Tame (xs ++ ys)
tame_both [] ys p q = q
tame_both (x ∷ xs) ys p q = (p.0, tame_both xs ys p.1 q)

-- ---- two digits
pub two_tame : (n : ℕ) → n < 100 → AllByRecursion Tame (in_two_digits n)
two_tame n h = (tame_digit (48 + n / 10) (digit_is (48 + n / 10) (omega arith) (omega arith)), (tame_digit (48 + n % 10) (digit_is (48 + n % 10) (omega arith) (omega arith)), tt))

pub two_back : (n : ℕ) → n < 100 → two_digits (in_two_digits n) ≡ Some n
two_back n h = rw (digit_is (48 + n / 10) (omega arith) (omega arith), digit_is (48 + n % 10) (omega arith) (omega arith)) (ap Some (omega arith))

pair_is : (a b n : ℕ) → digit_pair a b ≡ Some n → (digit a ≡ true) × (digit b ≡ true) × (n ≡ (a - 48) * 10 + (b - 48))
pair_is a b n e =
    let f = some_if (digit a) _ n e in
    let g = some_if (digit b) _ n f.1 in
    (f.0, g.0, cc)

not_zero : (o : Option ℕ) (n : ℕ) → unless_zero o ≡ Some n → (o ≡ Some n) × (1 ≤ n)
not_zero None n e = let z : ◌≡◌ {A = ℕ} 0 1 = cc in absurd (omega arith)
not_zero (Some k) n e = go (eqb k 0) refl e
  where
    go : (t : Bool) → eqb k 0 ≡ t → cond t None (Some k) ≡ Some n → (Some k ≡ Some n) × (1 ≤ n)
    go true p e = let z : ◌≡◌ {A = ℕ} 0 1 = cc in absurd (omega arith)
    go false p e = let s : k ≡ n = cc in let ne = eqb-false k 0 p in (e, one k n s ne)
      where
        one : (k n : ℕ) → k ≡ n → (k ≡ 0 → ⊥) → 1 ≤ n
        one k n s ne = omega arith

-- ---- devices
pub data Device : List ℕ → Type 0 where
  by_serial : (t : List ℕ) → length t ≡ 12 → every hex_digit t ≡ true → Device (35 ∷ t)
  by_number : (a b n : ℕ) → unless_zero (digit_pair a b) ≡ Some n → Device (a ∷ b ∷ [])

tame_device : (s : List ℕ) → Device s → AllByRecursion Tame s
tame_device s (by_serial t len e) = ((omega arith, omega arith, λ e. omega arith, λ e. omega arith, λ e. omega arith), every_tame hex_digit tame_hex t e)
tame_device s (by_number a b n e) = let h = pair_is a b n (not_zero (digit_pair a b) n e).0 in (tame_digit a h.0, (tame_digit b h.1, tt))

-- a device has its length, whatever follows it
long_device : (s z : List ℕ) → Device s → device_length (s ++ z) ≡ Some (length s)
long_device s z (by_serial t len e) =
    rw (le-leb 12 (length (t ++ z)) (omega (arith, length-append t z)), take_at t z 12 len, e, len)
long_device s z (by_number a b n e) =
    let h = digit_bounds a (pair_is a b n (not_zero (digit_pair a b) n e).0).0 in
    rw (ne_eqb a 35 (λ q. omega arith), e)

front_device : (s : List ℕ) (n : ℕ) → device_length s ≡ Some n → Device (take n s) × (n ≤ length s)
front_device [] n e = let z : ◌≡◌ {A = ℕ} 0 1 = cc in absurd (omega arith)
front_device (b ∷ s) n e = go (eqb b 35) refl e
  where
    serial : b ≡ 35 → serial_length s ≡ Some n → Device (take n (b ∷ s)) × (n ≤ length (b ∷ s))
    serial is e =
        let f = some_if (leb 12 (length s)) _ n e in
        let g = some_if (every hex_digit (take 12 s)) _ n f.1 in
        let len = leb-true 12 (length s) f.0 in
        let k : n ≡ 13 = cc in
        rw (k, is) (by_serial (take 12 s) (length-take-le 12 s len) g.0, omega arith)

    pair : (t : List ℕ) → pair_length b t ≡ Some n → Device (take n (b ∷ t)) × (n ≤ length (b ∷ t))
    pair [] e = let z : ◌≡◌ {A = ℕ} 0 1 = cc in absurd (omega arith)
    pair (c ∷ t) e = found (unless_zero (digit_pair b c)) refl e
      where
        found : (o : Option ℕ) → unless_zero (digit_pair b c) ≡ o → if_some o 2 ≡ Some n → Device (take n (b ∷ c ∷ t)) × (n ≤ length (b ∷ c ∷ t))
        found None p e = let z : ◌≡◌ {A = ℕ} 0 1 = cc in absurd (omega arith)
        found (Some k) p e = let two : n ≡ 2 = cc in rw two (by_number b c k p, omega arith)

    go : (t : Bool) → eqb b 35 ≡ t → cond t (serial_length s) (pair_length b s) ≡ Some n → Device (take n (b ∷ s)) × (n ≤ length (b ∷ s))
    go true p e = serial (eqb-true b 35 p) e
    go false p e = pair s e

device_is : (s : List ℕ) → Device s → is_device s ≡ true
device_is s w =
    let e : device_length s ≡ Some (length s) = subst (λ (x : List ℕ). device_length x ≡ Some (length s)) (append-nil s) (long_device s [] w) in
    rw e (eq-eqb (length s) (length s) refl)

is_a_device : (s : List ℕ) → is_device s ≡ true → Device s
is_a_device s e = go (device_length s) refl e
  where
    go : (o : Option ℕ) → device_length s ≡ o → is_length (length s) o ≡ true → Device s
    go None p e = never e
    go (Some n) p e =
        let k : n ≡ length s = eqb-true n (length s) e in
        let w = (front_device s n p).0 in
        subst Device (ap (λ (i : ℕ). take i s) k ∙ take_all s) w
      where
        take_all : (xs : List ℕ) → take (length xs) xs ≡ xs
        take_all [] = refl
        take_all (x ∷ xs) = ap (λ (t : List ℕ). x ∷ t) (take_all xs)

-- ---- zones
zone_back : (z : Option ℕ) → is_zone z ≡ true → zone_of (zone_text z) ≡ Some z
zone_back None e = refl
zone_back (Some z) e =
    let h = both (leb 1 z) (leb z 99) e in
    let low = leb-true 1 z h.0 in
    let high = leb-true z 99 h.1 in
    ap (λ (o : Option ℕ). zone_read (unless_zero o)) (two_back z (omega arith)) ∙ rw (ne_eqb z 0 (λ q. omega arith))

tame_zone : (z : Option ℕ) → is_zone z ≡ true → AllByRecursion Tame (zone_text z)
tame_zone None e = tt
tame_zone (Some z) e =
    let h = both (leb 1 z) (leb z 99) e in
    let high = leb-true z 99 h.1 in
    ((omega arith, omega arith, λ e. omega arith, λ e. omega arith, λ e. omega arith), two_tame z (omega arith))

Zoned : List ℕ → Option ℕ → Type 0
Zoned s z = (zone_text z ≡ s) × (is_zone z ≡ true)

two_from : (s : List ℕ) (n : ℕ) → two_digits s ≡ Some n → (in_two_digits n ≡ s) × (n ≤ 99)
two_from [] n e = let z : ◌≡◌ {A = ℕ} 0 1 = cc in absurd (omega arith)
two_from (a ∷ []) n e = let z : ◌≡◌ {A = ℕ} 0 1 = cc in absurd (omega arith)
two_from (a ∷ b ∷ []) n e =
    let h = pair_is a b n e in
    let f = digit_bounds a h.0 in
    let g = digit_bounds b h.1 in
    let k = h.2 in
    let x : 48 + n / 10 ≡ a = omega arith in
    let y : 48 + n % 10 ≡ b = omega arith in
    (cc, omega arith)
two_from (a ∷ b ∷ c ∷ s) n e = let z : ◌≡◌ {A = ℕ} 0 1 = cc in absurd (omega arith)

zone_from : (s : List ℕ) (z : Option ℕ) → zone_of s ≡ Some z → Zoned s z
unfolding Zoned
zone_from [] z e = let k : None ≡ z = cc in subst (λ (o : Option ℕ). Zoned [] o) k (refl, refl)
zone_from (p ∷ s) z e =
    let f = some_if (eqb p 46) _ z e in
    go (unless_zero (two_digits s)) refl f.1 (eqb-true p 46 f.0)
  where
    go : (o : Option ℕ) → unless_zero (two_digits s) ≡ o → zone_read o ≡ Some z → p ≡ 46 → Zoned (p ∷ s) z
    go None q e is = let z : ◌≡◌ {A = ℕ} 0 1 = cc in absurd (omega arith)
    go (Some n) q e is =
        let h = not_zero (two_digits s) n q in
        let t = two_from s n h.0 in
        let k : Some n ≡ z = cc in
        subst (λ (o : Option ℕ). Zoned (p ∷ s) o) k (rw (is, t.0), rw (le-leb 1 n h.1) (le-leb n 99 t.1))

-- ---- addresses
split_back : (d : List ℕ) (z : Option ℕ) → Device d → is_zone z ≡ true → split_device (d ++ zone_text z) (device_length (d ++ zone_text z)) ≡ Some (record { device = d; zone = z })
split_back d z w e =
    ap (split_device (d ++ zone_text z)) (long_device d (zone_text z) w)
    ∙ rw (take_at d (zone_text z) (length d) refl, drop_at d (zone_text z) (length d) refl, zone_back z e)

not_unaddressed : (d : List ℕ) (z : List ℕ) → Device d → unaddressed (d ++ z) ≡ false
not_unaddressed d z (by_serial t len e) = hash (t ++ z)
  where
    hash : (u : List ℕ) → unaddressed (35 ∷ u) ≡ false
    hash [] = refl
    hash (a ∷ []) = refl
    hash (a ∷ b ∷ u) = refl
not_unaddressed d [] (by_number a b n e) =
    let h = digit_bounds a (pair_is a b n (not_zero (digit_pair a b) n e).0).0 in rw (ne_eqb a 63 (λ q. omega arith))
not_unaddressed d (c ∷ z) (by_number a b n e) = refl

pub record Formed (side : Side) (a : Address) : Type 0 where
  pub read : address_of side (address_text a) ≡ Some a
  pub tame : AllByRecursion Tame (address_text a)

by_device : (side : Side) (a : Address) → Device a.device → is_zone a.zone ≡ true → Formed side a
by_device command a w e = record { read = split_back a.device a.zone w e; tame = tame_both a.device (zone_text a.zone) (tame_device a.device w) (tame_zone a.zone e) }
by_device answer a w e = record {
  read = rw (not_unaddressed a.device (zone_text a.zone) w) (split_back a.device a.zone w e);
  tame = tame_both a.device (zone_text a.zone) (tame_device a.device w) (tame_zone a.zone e);
}

by_none : (d : List ℕ) (z : Option ℕ) → unaddressed d ≡ true → no_zone z ≡ true → Formed answer (record { device = d; zone = z })
by_none d (Some z) p q = never q
by_none [] None p q = never p
by_none (a ∷ []) None p q = never p
by_none (a ∷ b ∷ []) None p q =
    let h = both (eqb a 63) (eqb b 63) p in
    let x = eqb-true a 63 h.0 in
    let y = eqb-true b 63 h.1 in
    record { read = rw p; tame = ((omega arith, omega arith, λ e. omega arith, λ e. omega arith, λ e. omega arith), ((omega arith, omega arith, λ e. omega arith, λ e. omega arith, λ e. omega arith), tt)) }
by_none (a ∷ b ∷ c ∷ d) None p q = never p

pub formed_address : (side : Side) (a : Address) → is_address side a ≡ true → Formed side a
formed_address command a e = let h = both (is_device a.device) (is_zone a.zone) e in by_device command a (is_a_device a.device h.0) h.1
formed_address answer a e = go (unaddressed a.device) refl e
  where
    go : (t : Bool) → unaddressed a.device ≡ t → cond t (no_zone a.zone) (cond (is_device a.device) (is_zone a.zone) false) ≡ true → Formed answer a
    go true p e = by_none a.device a.zone p e
    go false p e = let h = both (is_device a.device) (is_zone a.zone) e in by_device answer a (is_a_device a.device h.0) h.1

-- what was read is an address, and its text is what it was read from
pub record Was (side : Side) (s : List ℕ) (a : Address) : Type 0 where
  pub form : is_address side a ≡ true
  pub text : address_text a ≡ s

Split : List ℕ → Address → Type 0
Split s a = Device a.device × (is_zone a.zone ≡ true) × (address_text a ≡ s)

split_from : (s : List ℕ) (a : Address) → split_device s (device_length s) ≡ Some a → Split s a
unfolding Split Zoned
split_from s a e = go (device_length s) refl e
  where
    go : (o : Option ℕ) → device_length s ≡ o → split_device s o ≡ Some a → Split s a
    go None p e = let z : ◌≡◌ {A = ℕ} 0 1 = cc in absurd (omega arith)
    go (Some n) p e = zoned (zone_of (drop n s)) refl e
      where
        zoned : (o : Option (Option ℕ)) → zone_of (drop n s) ≡ o → with_zone (take n s) o ≡ Some a → Split s a
        zoned None q e = let z : ◌≡◌ {A = ℕ} 0 1 = cc in absurd (omega arith)
        zoned (Some z) q e =
            let k : record { device = take n s; zone = z } ≡ a = cc in
            let w = zone_from (drop n s) z q in
            subst (Split s) k ((front_device s n p).0, w.1, ap (λ (x : List ℕ). take n s ++ x) w.0 ∙ take-append-drop n s)

split_was : (s : List ℕ) (a : Address) → Split s a → cond (is_device a.device) (is_zone a.zone) false ≡ true
unfolding Split
split_was s a h = rw (device_is a.device h.0) h.1

pub address_was : (side : Side) (s : List ℕ) (a : Address) → address_of side s ≡ Some a → Was side s a
unfolding Split
address_was command s a e = let h = split_from s a e in record { form = split_was s a h; text = h.2 }
address_was answer s a e = go (unaddressed s) refl e
  where
    go : (t : Bool) → unaddressed s ≡ t → cond t (Some (record { device = s; zone = None })) (split_device s (device_length s)) ≡ Some a → Was answer s a
    go true p e =
        let k : record { device = s; zone = None } ≡ a = cc in
        subst (Was answer s) k (record { form = rw p; text = append-nil s })
    go false p e =
        let h = split_from s a e in
        let not_none : unaddressed a.device ≡ false = subst (λ (x : List ℕ). unaddressed x ≡ false) (append-nil a.device) (not_unaddressed a.device [] h.0) in
        record { form = rw not_none (split_was s a h); text = h.2 }

-- ---- an address is short
device_short : (s : List ℕ) → Device s → length s ≤ 13
device_short s (by_serial t len e) = omega arith
device_short s (by_number a b n e) = omega arith

zone_short : (z : Option ℕ) → length (zone_text z) ≤ 3
zone_short None = omega arith
zone_short (Some z) = omega arith

split_short : (s : List ℕ) (a : Address) → Split s a → length s ≤ 16
unfolding Split
split_short s a h = omega (arith, ap length h.2, length-append a.device (zone_text a.zone), device_short a.device h.0, zone_short a.zone)

none_short : (s : List ℕ) → unaddressed s ≡ true → length s ≤ 16
none_short [] e = omega arith
none_short (a ∷ []) e = omega arith
none_short (a ∷ b ∷ []) e = omega arith
none_short (a ∷ b ∷ c ∷ s) e = never e

pub address_short : (side : Side) (s : List ℕ) (a : Address) → address_of side s ≡ Some a → length s ≤ 16
address_short command s a e = split_short s a (split_from s a e)
address_short answer s a e = go (unaddressed s) refl e
  where
    go : (t : Bool) → unaddressed s ≡ t → cond t (Some (record { device = s; zone = None })) (split_device s (device_length s)) ≡ Some a → length s ≤ 16
    go true p e = none_short s p
    go false p e = split_short s a (split_from s a e)
