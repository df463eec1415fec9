-- The fields of a message by their place, and its kind.
use Rattle.std.proofs.Common.{slice_index_or, ◌≡◌, ℕ, zero, suc, ◌+◌, ◌-◌, ◌≤◌, Bool, true, false, not, cond, eqb, List, [], ◌∷◌, length, Some, None, Option, sym, refl, ap, ◌∙◌, arith}
use lib.ListN.{length-map}
use Rattle.std.proofs.lemmas.Option.{slice_get_within, unwrap_or-slice_get}
use Rattle.std.proofs.lemmas.Bool.{eq-eqb, ne_eqb}
use Rattle.std.specs.List.{slice_get}
use Rattle.escape.specs.Tokens.{resolved}
use Rattle.escape.specs.Texts.{same_bytes}
use Rattle.line.specs.Lines.{fields_of}
use Rattle.line.specs.Meanings.{body_fields, message_of}
use Rattle.line.specs.Fields.{body_of, raw_fields}
use Rattle.line.specs.declared.message.Message.{Message}
use Rattle.line.proofs.Indices.{meant_none, meant_later, message_fields}
use Rattle.std.specs.Borrow.{Bor}
use Rattle.std.specs.Option.{unwrap_or, is_some}
use Rattle.line.specs.Reads.{behind}
use Rattle.line.specs.Fields.{is_text}
use Rattle.line.specs.Lines.{Message as Meaning}
use Rattle.writer.specs.Writing.{is_answer}
use Rattle.record.specs.Records.{field_of, is_kind}

-- ---- by index
missing : {X : Type 0} (xs : List X) (n : ℕ) → None ≡ slice_get xs n → length xs ≤ n
missing [] n e = omega arith
missing (y ∷ ys) zero e = cc
missing (y ∷ ys) (suc n) e = let h = missing ys n e in omega arith

as_many : (o : Option (List ℕ × List (List ℕ))) → length (body_fields o) ≡ length (raw_fields o)
as_many None = refl
as_many (Some f) = ap suc (length-map f.1 resolved)

-- ---- of a message, whose fields stand in its line with their escapes
module _ (m : Message) where
  sizes : length (message_of m).fields ≡ length (raw_fields (fields_of (body_of m)))
  sizes = ap length (message_fields m) ∙ as_many (fields_of (body_of m))

  -- the field of a place, or nothing
  pub field_at : (o : Option (Bor (List ℕ))) (r d : Bor (List ℕ)) (place : ℕ) → r ≡ unwrap_or o d → d.now ≡ [] → behind o ≡ slice_get (raw_fields (fields_of (body_of m))) (place + 1) → resolved r.now ≡ field_of (message_of m) place
  unfolding field_of
  field_at None r d place is z e =
      ap (λ (x : Bor (List ℕ)). resolved x.now) is ∙ ap resolved z
      ∙ ap (λ (x : Option (List ℕ)). unwrap_or x []) (meant_none (fields_of (body_of m)) (place + 1) e ∙ ap (λ (fs : List (List ℕ)). slice_get fs (place + 1)) (sym (message_fields m)))
      ∙ unwrap_or-slice_get (message_of m).fields (place + 1) []
  field_at (Some x) r d place is z e =
      ap (λ (x : Bor (List ℕ)). resolved x.now) is
      ∙ ap (λ (x : Option (List ℕ)). unwrap_or x []) (meant_later (fields_of (body_of m)) (place + 1) x.now e (λ z. omega arith) ∙ ap (λ (fs : List (List ℕ)). slice_get fs (place + 1)) (sym (message_fields m)))
      ∙ unwrap_or-slice_get (message_of m).fields (place + 1) []

  -- by the field of the last index and that of the next
  pub last_there : (n : ℕ) (a b : Option (Bor (List ℕ))) (r : Bool) → 1 ≤ n → true ≡ is_some a → is_some b ≡ not r
      → behind a ≡ slice_get (raw_fields (fields_of (body_of m))) (n - 1) → behind b ≡ slice_get (raw_fields (fields_of (body_of m))) n → r ≡ eqb (length (message_of m).fields) n
  last_there n None b r some there next ea eb = cc
  last_there n (Some x) None false some there next ea eb = cc
  last_there n (Some x) (Some y) true some there next ea eb = cc
  last_there n (Some x) None true some there next ea eb =
      let h = slice_get_within (raw_fields (fields_of (body_of m))) (n - 1) x.now (sym ea) in
      let k = missing (raw_fields (fields_of (body_of m))) n eb in
      sym (eq-eqb (length (message_of m).fields) n (omega (arith, sizes)))
  last_there n (Some x) (Some y) false some there next ea eb =
      let h = slice_get_within (raw_fields (fields_of (body_of m))) n y.now (sym eb) in sym (ne_eqb (length (message_of m).fields) n (λ z. omega (arith, sizes)))

  pub last_missing : (n : ℕ) (a : Option (Bor (List ℕ))) (r : Bool) → 1 ≤ n → false ≡ is_some a → r ≡ is_some a → behind a ≡ slice_get (raw_fields (fields_of (body_of m))) (n - 1) → r ≡ eqb (length (message_of m).fields) n
  last_missing n None r some there is ea =
      let h = missing (raw_fields (fields_of (body_of m))) (n - 1) ea in is ∙ sym (ne_eqb (length (message_of m).fields) n (λ z. omega (arith, sizes)))
  last_missing n (Some x) r some there is ea = cc

-- ---- the kind of a message, by its field of index 1
neither : (t : Bool) → cond t false false ≡ false
neither true = refl
neither false = refl

pub kind_by_field : (name : List ℕ) (count : ℕ) (m : Meaning) → is_kind name count m ≡ cond (is_answer m.side) (cond (is_text name (slice_get m.fields 1)) (eqb (length m.fields) (count + 2)) false) false
unfolding is_kind field_of
kind_by_field name count m = ap (λ (t : Bool). cond (is_answer m.side) t false) (go m.fields)
  where
    go : (fs : List (List ℕ)) → cond (same_bytes (slice_index_or fs 1 []) name) (eqb (length fs) (count + 2)) false ≡ cond (is_text name (slice_get fs 1)) (eqb (length fs) (count + 2)) false
    go [] = ap (λ (t : Bool). cond (same_bytes [] name) t false) (ne_eqb 0 (count + 2) (λ e. omega arith)) ∙ neither (same_bytes [] name)
    go (x ∷ []) = ap (λ (t : Bool). cond (same_bytes [] name) t false) (ne_eqb 1 (count + 2) (λ e. omega arith)) ∙ neither (same_bytes [] name)
    go (x ∷ y ∷ fs) = refl
