-- Texts that lie in a buffer.
use Rattle.std.proofs.Common.{◌≡◌, ℕ, ◌+◌, ◌-◌, ◌≤◌, Bool, true, false, cond, if◌then◌else◌, leb, List, [], ◌++◌, length, take, drop, Some, None, Option, refl, ap, ◌∙◌, append_assoc, arith, length-append, rules}
use Rattle.std.proofs.lemmas.List.{same_lists, places}
use Rattle.std.proofs.lemmas.Bool.{le-leb, leb-true}
use Rattle.std.specs.Borrow.{Bor}
use Rattle.std.specs.Slice.{IsGetRangeResult}
use Rattle.line.specs.Reads.{behind}
use Rattle.escape.specs.Resolving.{written}
use Rattle.line.specs.Lines.{Message}
use Rattle.record.specs.Records.{field_of, texts}
use Rattle.record.proofs.Texts.{there}
use Rattle.record.specs.Spans.{Lies}
use Rattle.record.specs.Writes.{within, part}
use Rattle.record.specs.declared.span.Span.{Span}

cut_out : (before text after : List ℕ) (n : ℕ) → n ≡ length before + length text → take (n - length before) (drop (length before) (before ++ (text ++ after))) ≡ text
cut_out before text after n e = same_lists _ _ (search (rules, places)) (λ i d l. grind (arith, places))

pub lies_there : (s : Span) (before text after buffer : List ℕ) → s.start ≡ length before → s.end ≡ length before + length text → buffer ≡ before ++ (text ++ after) → Lies s text buffer
unfolding part
lies_there s before text after buffer a b e =
    let size : length buffer ≡ length before + (length text + length after) = ap length e ∙ length-append before (text ++ after) ∙ ap (λ (k : ℕ). length before + k) (length-append text after) in
    record {
      there = ap (λ (t : Bool). cond t (leb s.end (length buffer)) false) (le-leb s.start s.end (omega arith)) ∙ le-leb s.end (length buffer) (omega arith);
      is = ap (λ (k : ℕ). take (s.end - k) (drop k buffer)) a ∙ ap (λ (l : List ℕ). take (s.end - length before) (drop (length before) l)) e ∙ cut_out before text after s.end b;
    }

-- a text alone, and two one behind the other
pub one_lies : (n : ℕ) (text out buffer : List ℕ) → n ≡ length text → length text ≤ length out → buffer ≡ written text out → Lies (record { start = 0; end = n }) text buffer
one_lies n text out buffer e h is = lies_there (record { start = 0; end = n }) [] text (drop (length text) out) buffer (omega arith) (omega arith) (is ∙ there text out h)

module _ (m : Message) (out buffer : List ℕ) (middle end : ℕ) (a : middle ≡ length (field_of m 1)) (b : end ≡ length (texts m)) (h : length (texts m) ≤ length out) (is : buffer ≡ written (texts m) out) where
  both : buffer ≡ field_of m 1 ++ (field_of m 2 ++ drop (length (texts m)) out)
  unfolding texts
  both = is ∙ there (texts m) out h ∙ append_assoc (field_of m 1) (field_of m 2) (drop (length (texts m)) out)

  size : end ≡ length (field_of m 1) + length (field_of m 2)
  unfolding texts
  size = b ∙ length-append (field_of m 1) (field_of m 2)

  pub first_lies : Lies (record { start = 0; end = middle }) (field_of m 1) buffer
  first_lies = lies_there (record { start = 0; end = middle }) [] (field_of m 1) (field_of m 2 ++ drop (length (texts m)) out) buffer (omega arith) (omega arith) both

  pub second_lies : Lies (record { start = middle; end = end }) (field_of m 2) buffer
  second_lies = lies_there (record { start = middle; end = end }) (field_of m 1) (field_of m 2) (drop (length (texts m)) out) buffer a size both

-- the bytes from start to end of a span, if they lie in the buffer
pub part_got : (s : Span) (text : List ℕ) (r : Option (Bor (List ℕ))) → IsGetRangeResult text s.start s.end r → behind r ≡ (if within s text then Some (part s text) else None)
unfolding part
part_got s text None h = go (leb s.start s.end) refl (leb s.end (length text)) refl
  where
    go : (a : Bool) → leb s.start s.end ≡ a → (b : Bool) → leb s.end (length text) ≡ b → None ≡ (if cond a b false then Some (part s text) else None)
    go true ea true eb = let t : ◌≡◌ {A = Bool} false true = h.1 (leb-true s.start s.end ea, leb-true s.end (length text) eb) in cc
    go true ea false eb = refl
    go false ea b eb = refl
part_got s text (Some x) h = rw (le-leb s.start s.end h.0.0, le-leb s.end (length text) h.0.1) (ap Some h.0.2)
