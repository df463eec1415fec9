-- The fields of a body by their index.
use Rattle.std.proofs.Common.{◌≡◌, ℕ, zero, suc, ◌-◌, ◌<◌, Bool, true, false, cond, leb, List, [], ◌∷◌, map, length, Some, None, Ok, Err, Option, Result, sym, refl, ap, ◌∙◌, arith}
use Rattle.std.specs.List.{slice_get}
use Rattle.std.specs.Option.{option_map, ok_or}
use Rattle.escape.specs.Tokens.{tokens, ahead, parts, resolved}
use Rattle.escape.proofs.Walking.{ahead_none}
use Rattle.line.specs.Lines.{one_more, all_ended, first_and_later, fields_of}
use Rattle.line.specs.Meanings.{body_fields, message_of}
use Rattle.line.specs.Reads.{first_of}
use Rattle.line.specs.Fields.{body_of, raw_fields, before_last, field_answer, field_written}
use Rattle.escape.specs.Resolving.{fitting, written}
use Rattle.line.specs.declared.fault.Fault.{Fault}
use Rattle.line.specs.declared.fault.Fault.TheVariants.{ShortBuffer}
use Rattle.line.specs.declared.message.Message.{Message}
use Rattle.line.specs.declared.message.Message.TheVariants.{Answer, Event, Command}

last_more : (f : List ℕ) (ps : List (List ℕ)) → ps ≡ ahead [] ps → before_last (f ∷ ps) ≡ f ∷ before_last ps
last_more f [] e = let z : ◌≡◌ {A = ℕ} 0 1 = cc in absurd (omega arith)
last_more f (q ∷ ps) e = refl

front_part : (s f after : List ℕ) → f ∷ parts 58 after ≡ parts 58 s → before_last (parts 58 s) ≡ f ∷ before_last (parts 58 after)
front_part s f after e = ap before_last (sym e) ∙ last_more f (parts 58 after) (ahead_none 58 (tokens after))

next_nth : (f : List ℕ) (ps : List (List ℕ)) (n : ℕ) → 0 < n → slice_get (f ∷ ps) n ≡ slice_get ps (n - 1)
next_nth f ps zero h = absurd (omega arith)
next_nth f ps (suc n) h = ap (slice_get ps) (omega arith)

pub part_here : (s f after : List ℕ) (n : ℕ) → f ∷ parts 58 after ≡ parts 58 s → n ≡ 0 → Some f ≡ slice_get (before_last (parts 58 s)) n
part_here s f after n e h = sym (ap (slice_get (before_last (parts 58 s))) h ∙ ap (λ (ps : List (List ℕ)). slice_get ps 0) (front_part s f after e))

-- ---- a body of which each field is ended
all_before : (ps fs : List (List ℕ)) → all_ended ps ≡ Some fs → before_last ps ≡ fs
all_before [] fs e = let z : ◌≡◌ {A = ℕ} 0 1 = cc in absurd (omega arith)
all_before ([] ∷ []) fs e = cc
all_before ((b ∷ s) ∷ []) fs e = let z : ◌≡◌ {A = ℕ} 0 1 = cc in absurd (omega arith)
all_before (p ∷ q ∷ ps) fs e = go (all_ended (q ∷ ps)) refl e (λ gs h. all_before (q ∷ ps) gs h)
  where
    go : (o : Option (List (List ℕ))) → all_ended (q ∷ ps) ≡ o → one_more p o ≡ Some fs → ((gs : List (List ℕ)) → all_ended (q ∷ ps) ≡ Some gs → before_last (q ∷ ps) ≡ gs) → p ∷ before_last (q ∷ ps) ≡ fs
    go None h e later = let z : ◌≡◌ {A = ℕ} 0 1 = cc in absurd (omega arith)
    go (Some gs) h e later = let k = later gs h in cc

pub raw_before : (body : List ℕ) (f : List ℕ) → Some f ≡ first_of (fields_of body) → before_last (parts 58 body) ≡ raw_fields (fields_of body)
raw_before body f e = go (all_ended (parts 58 body)) refl e
  where
    go : (o : Option (List (List ℕ))) → all_ended (parts 58 body) ≡ o → Some f ≡ first_of (first_and_later o) → before_last (parts 58 body) ≡ raw_fields (first_and_later o)
    go None h e = let z : ◌≡◌ {A = ℕ} 0 1 = cc in absurd (omega arith)
    go (Some []) h e = let z : ◌≡◌ {A = ℕ} 0 1 = cc in absurd (omega arith)
    go (Some (g ∷ gs)) h e = all_before (parts 58 body) (g ∷ gs) h

-- ---- what a field means, from how it stands
nth_map : (fs : List (List ℕ)) (n : ℕ) → slice_get (map resolved fs) n ≡ option_map resolved (slice_get fs n)
nth_map [] n = refl
nth_map (f ∷ fs) zero = refl
nth_map (f ∷ fs) (suc n) = nth_map fs n

pub meant_none : (o : Option (List ℕ × List (List ℕ))) (n : ℕ) → None ≡ slice_get (raw_fields o) n → None ≡ slice_get (body_fields o) n
meant_none None n e = refl
meant_none (Some f) zero e = let z : ◌≡◌ {A = ℕ} 0 1 = cc in absurd (omega arith)
meant_none (Some f) (suc n) e = sym (nth_map f.1 n ∙ ap (option_map resolved) (sym e))

pub meant_first : (o : Option (List ℕ × List (List ℕ))) (n : ℕ) (f : List ℕ) → Some f ≡ slice_get (raw_fields o) n → n ≡ 0 → Some f ≡ slice_get (body_fields o) n
meant_first None n f e z = e
meant_first (Some g) zero f e z = e
meant_first (Some g) (suc n) f e z = absurd (omega arith)

pub meant_later : (o : Option (List ℕ × List (List ℕ))) (n : ℕ) (f : List ℕ) → Some f ≡ slice_get (raw_fields o) n → (n ≡ 0 → ⊥) → Some (resolved f) ≡ slice_get (body_fields o) n
meant_later None n f e z = let z : ◌≡◌ {A = ℕ} 0 1 = cc in absurd (omega arith)
meant_later (Some g) zero f e z = absurd (z refl)
meant_later (Some g) (suc n) f e z = sym (nth_map g.1 n ∙ ap (option_map resolved) (sym e))

-- ---- a field of a message, written to a buffer
pub message_fields : (m : Message) → (message_of m).fields ≡ body_fields (fields_of (body_of m))
message_fields (Answer a m b) = refl
message_fields (Event a b) = refl
message_fields (Command a m b c) = refl

pub field_none : (m : Message) (n : ℕ) → None ≡ slice_get (raw_fields (fields_of (body_of m))) n → None ≡ slice_get (message_of m).fields n
field_none m n e = meant_none (fields_of (body_of m)) n e ∙ ap (λ (fs : List (List ℕ)). slice_get fs n) (sym (message_fields m))

pub field_first : (m : Message) (n : ℕ) (f : List ℕ) → Some f ≡ slice_get (raw_fields (fields_of (body_of m))) n → n ≡ 0 → Some f ≡ slice_get (message_of m).fields n
field_first m n f e z = meant_first (fields_of (body_of m)) n f e z ∙ ap (λ (fs : List (List ℕ)). slice_get fs n) (sym (message_fields m))

pub field_later : (m : Message) (n : ℕ) (f : List ℕ) → Some f ≡ slice_get (raw_fields (fields_of (body_of m))) n → (n ≡ 0 → ⊥) → Some (resolved f) ≡ slice_get (message_of m).fields n
field_later m n f e z = meant_later (fields_of (body_of m)) n f e z ∙ ap (λ (fs : List (List ℕ)). slice_get fs n) (sym (message_fields m))

pub record Answered (out new : List ℕ) (index : ℕ) (r : Result ℕ Fault) (field : Option (List ℕ)) : Type 0 where
  pub answer : r ≡ field_answer index (length out) field
  pub after : new ≡ field_written out field

or_short : (bs : List ℕ) (index room : ℕ) → ok_or (fitting bs room) ShortBuffer ≡ field_answer index room (Some bs)
or_short bs index room = go (leb (length bs) room)
  where
    go : (t : Bool) → ◌≡◌ {A = Result ℕ Fault} (ok_or (cond t (Some (length bs)) None) ShortBuffer) (cond t (Ok (length bs)) (Err ShortBuffer))
    go true = refl
    go false = refl

by_field : (m : Message) (out after bs : List ℕ) (index : ℕ) (w : Option ℕ) (r : Result ℕ Fault) → Some bs ≡ slice_get (body_fields (fields_of (body_of m))) index → r ≡ ok_or w ShortBuffer → w ≡ fitting bs (length out) → after ≡ written bs out
    → Answered out after index r (slice_get (message_of m).fields index)
by_field m out after bs index w r e is fit put =
    let n : Some bs ≡ slice_get (message_of m).fields index = e ∙ ap (λ (fs : List (List ℕ)). slice_get fs index) (sym (message_fields m)) in
    record {
      answer = is ∙ ap (λ (o : Option ℕ). ok_or o ShortBuffer) fit ∙ or_short bs index (length out) ∙ ap (field_answer index (length out)) n;
      after = put ∙ ap (field_written out) n;
    }

pub first_written : (m : Message) (out after raw : List ℕ) (index : ℕ) (w : Option ℕ) (r : Result ℕ Fault) → Some raw ≡ slice_get (raw_fields (fields_of (body_of m))) index → index ≡ 0 → r ≡ ok_or w ShortBuffer → w ≡ fitting raw (length out) → after ≡ written raw out
    → Answered out after index r (slice_get (message_of m).fields index)
first_written m out after raw index w r e z is fit put = by_field m out after raw index w r (meant_first (fields_of (body_of m)) index raw e z) is fit put

pub later_written : (m : Message) (out after raw : List ℕ) (index : ℕ) (w : Option ℕ) (r : Result ℕ Fault) → Some raw ≡ slice_get (raw_fields (fields_of (body_of m))) index → (index ≡ 0 → ⊥) → r ≡ ok_or w ShortBuffer → w ≡ fitting (resolved raw) (length out) → after ≡ written (resolved raw) out
    → Answered out after index r (slice_get (message_of m).fields index)
later_written m out after raw index w r e z is fit put = by_field m out after (resolved raw) index w r (meant_later (fields_of (body_of m)) index raw e z) is fit put
