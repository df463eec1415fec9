-- The addresses of commands can be kept.
use Rattle.std.proofs.Common.{◌≡◌, ℕ, Bool, true, false, cond, eqb, leb, ◌⊎◌, List, [], ◌∷◌, length, get_or, take, Some, None, Option, sym, refl, ap, ◌∙◌, subst, inl, inr, arith}
use Rattle.std.proofs.lemmas.Bool.{eq-eqb, ne_eqb, eqb-true}
use Rattle.std.specs.Option.{option_map}
use Rattle.line.specs.Forms.{Side, Address, every, hex_digit, serial_length, if_some, unless_zero, digit_pair, pair_length, device_length}
use Rattle.line.specs.Lines.{Message}
use Rattle.writer.specs.Canonical.{is_length, is_device, is_zone, is_address, formed, sendable, canonical}
use Rattle.life.specs.Link.{begun}
use Rattle.life.specs.Answers.{start}
use Rattle.numbers.specs.Browse.{is_command, is_browse}
use Rattle.numbers.specs.Ours.{all_bytes, sendable_command, ours}
use Rattle.numbers.specs.Addresses.{keepable_device, with_zone}
use Rattle.numbers.specs.Slots.{begins}
use Rattle.numbers.proofs.Lawful.{both, side_is}

pub two_bytes : (s : List ℕ) → length s ≡ 2 → Some (get_or s 0 0 ∷ get_or s 1 0 ∷ []) ≡ keepable_device s
two_bytes [] e = absurd (omega arith)
two_bytes (a ∷ []) e = absurd (omega arith)
two_bytes (a ∷ b ∷ []) e = refl
two_bytes (a ∷ b ∷ c ∷ s) e = absurd (omega arith)

-- ---- a device has 2 bytes or 13
of_serial : (p q : Bool) (k : ℕ) → cond p (cond q (Some 13) None) None ≡ Some k → k ≡ 13
of_serial true true k e = cc
of_serial true false k e = let z : ◌≡◌ {A = ℕ} 0 1 = cc in absurd (omega arith)
of_serial false q k e = let z : ◌≡◌ {A = ℕ} 0 1 = cc in absurd (omega arith)

of_pair : (b : ℕ) (s : List ℕ) (k : ℕ) → pair_length b s ≡ Some k → k ≡ 2
of_pair b [] k e = let z : ◌≡◌ {A = ℕ} 0 1 = cc in absurd (omega arith)
of_pair b (c ∷ s) k e = go (unless_zero (digit_pair b c)) e
  where
    go : (o : Option ℕ) → if_some o 2 ≡ Some k → k ≡ 2
    go None f = let z : ◌≡◌ {A = ℕ} 0 1 = cc in absurd (omega arith)
    go (Some x) f = cc

sized : (s : List ℕ) (k : ℕ) → device_length s ≡ Some k → (k ≡ 2) ⊎ (k ≡ 13)
sized [] k e = let z : ◌≡◌ {A = ℕ} 0 1 = cc in absurd (omega arith)
sized (b ∷ s) k e = go (eqb b 35) e
  where
    go : (v : Bool) → cond v (serial_length s) (pair_length b s) ≡ Some k → (k ≡ 2) ⊎ (k ≡ 13)
    go true f = inr (of_serial (leb 12 (length s)) (every hex_digit (take 12 s)) k f)
    go false f = inl (of_pair b s k f)

device_kept : (s : List ℕ) → is_device s ≡ true → keepable_device s ≡ Some s
device_kept s e = go (device_length s) refl
  where
    by_length : (length s ≡ 2) ⊎ (length s ≡ 13) → keepable_device s ≡ Some s
    by_length (inl l) = rw (eq-eqb (length s) 2 l)
    by_length (inr l) = rw (ne_eqb (length s) 2 (λ q. omega arith), eq-eqb (length s) 13 l)

    same : (k : ℕ) → k ≡ length s → (k ≡ 2) ⊎ (k ≡ 13) → (length s ≡ 2) ⊎ (length s ≡ 13)
    same k q (inl l) = inl (sym q ∙ l)
    same k q (inr l) = inr (sym q ∙ l)

    go : (o : Option ℕ) → device_length s ≡ o → keepable_device s ≡ Some s
    go None q = let f = ap (is_length (length s)) (sym q) ∙ e in let z : ◌≡◌ {A = ℕ} 0 1 = cc in absurd (omega arith)
    go (Some k) q = by_length (same k (eqb-true k (length s) (ap (is_length (length s)) (sym q) ∙ e)) (sized s k q))

-- ---- a command that can be sent begins an answer
pub sendable_begins : (m : Message) → sendable_command m ≡ true → begins m ≡ Some (begun ours m)
sendable_begins m e =
    let p = both (is_command m.side) (cond (all_bytes m.fields) (sendable m) false) e in
    let q = both (all_bytes m.fields) (sendable m) p.1 in
    let f = both (formed m) (leb (length (canonical m)) 1024) q.1 in
    let a = both (is_address m.side m.address) _ f.0 in
    let d : is_device m.address.device ≡ true = (both (is_device m.address.device) (is_zone m.address.zone) (subst (λ (s : Side). is_address s m.address ≡ true) (side_is m.side p.0) a.0)).0 in
    ap (λ (o : Option (List ℕ)). option_map (λ (x : Address). record { address = x; browse = is_browse m; place = start }) (with_zone m.address.zone o)) (device_kept m.address.device d)
