-- A buffer of which a call was lent the first n bytes, or all if it has fewer.
use Rattle.std.proofs.Common.{◌≡◌, ℕ, ◌≤◌, min, List, ◌++◌, length, take, drop, Some, Ok, Err, refl, ap, ◌∙◌, subst, arith}
use Rattle.std.proofs.lemmas.List.{same_lists, places}
use Rattle.escape.specs.Tokens.{resolved}
use Rattle.escape.specs.Resolving.{fitting, written}
use Rattle.life.specs.Link.{State, Arrives, Departs}
use Rattle.line.specs.declared.fault.Fault.{Fault}
use Rattle.link.specs.Meanings.{Pumps}
use Rattle.link.specs.declared.pumped.Pumped.{Pumped}
use Rattle.numbers.proofs.Texts.{some_fits, front_is}
use Rattle.script.specs.Script.{pump, arrive, depart}
use Rattle.desk.specs.Desks.{Tickets, Obeyed, pumped, too_small, arrived, departed}
use Rattle.desk.specs.declared.row.Row.TheVariants.{Refused, Arrived, Departed}
use Rattle.desk.specs.declared.row.Row.TheVariants.{Pumped as PumpedRow}

pub taken : (old : List ℕ) (n end : ℕ) → end ≡ min n (length old) → take end old ≡ take n old
taken old n end e = same_lists _ _ (grind (arith, places)) (λ i d h. grind (arith, places))

module _ (old part rest : List ℕ) (n end : ℕ) (e : end ≡ min n (length old)) (l : length part ≡ length (take end old)) (r : rest ≡ drop end old) where
  given : take end old ≡ take n old
  given = taken old n end e

  back : part ≡ take n (part ++ rest)
  back = rw r (same_lists _ _ (grind (arith, places)) (λ i d h. grind (arith, places)))

  untouched : drop n (part ++ rest) ≡ drop n old
  untouched = rw r (same_lists _ _ (grind (arith, places)) (λ i d h. grind (arith, places)))

  lent : (P : List ℕ → List ℕ → Type 0) → P (take end old) part → P (take n old) (take n (part ++ rest))
  lent P p =
      let Q : List ℕ → Type 0 = λ x. P x part in
      let R : List ℕ → Type 0 = λ x. P (take n old) x in subst R back (subst Q given p)

  pub pumps : {s t : State} {held : Tickets} (p : Pumped) → Pumps s (take end old) (Ok p) t part → Obeyed s t held held old (part ++ rest) (pump n) (PumpedRow p)
  pumps {s} {t} p does = pumped (lent (λ a b. Pumps s a (Ok p) t b) does) untouched refl

  pub pumps_not : {s t : State} {held : Tickets} (f : Fault) → Pumps s (take end old) (Err f) t part → Obeyed s t held held old (part ++ rest) (pump n) (Refused f)
  pumps_not {s} {t} f does = too_small (lent (λ a b. Pumps s a (Err f) t b) does) untouched refl

  pub departs : {s t : State} {held : Tickets} (k : ℕ) → Departs s (take end old) part k t → Obeyed s t held held old (part ++ rest) (depart n) (Departed k)
  departs {s} {t} k does = departed (lent (λ a b. Departs s a b k t) does) untouched refl

-- what a text means stands at the front of the buffer
pub arrives : {s t : State} {held : Tickets} (old new text : List ℕ) (n k : ℕ) → Some n ≡ fitting (resolved text) (length old) → new ≡ written (resolved text) old
    → Arrives s (take n new) k t → Obeyed s t held held old new (arrive text) (Arrived k)
arrives {s} {t} old new text n k fits is does =
    let P : List ℕ → Type 0 = λ x. Arrives s x k t in
    let h : (n ≡ length (resolved text)) × (n ≤ length old) = some_fits _ _ n fits in
    let front : take n new ≡ resolved text = ap (λ (k : ℕ). take k new) (omega arith) ∙ front_is (resolved text) old new n fits is in
    arrived (subst P front does) (omega (arith, h.0, h.1)) is refl
