-- A body taken piece by piece, and written anew.
use Rattle.std.proofs.Common.{◌≡◌, ℕ, ◌+◌, ◌<◌, true, ◌⊎◌, List, [], ◌∷◌, ◌++◌, map, length, Some, None, Ok, Err, Option, Result, sym, refl, ap, ◌∙◌, subst, inl, inr, append_assoc, append-nil, arith, length-append, Bor}
use Rattle.std.proofs.lemmas.Bool.{lt-leb, ne_eqb, cases_eq}
use Rattle.escape.specs.Tokens.{Token, plain, tokens, ahead, parts_of, parts, resolved, bytes_meant}
use Rattle.escape.specs.Spelling.{spelled, spelling}
use Rattle.escape.proofs.Opening.{tokens_plain}
use Rattle.escape.proofs.ByTokens.{tokens_escape, by_tokens}
use Rattle.escape.proofs.Walking.{parts_other, parts_here, ahead_none}
use Rattle.escape.proofs.Chunks.{chunk_tame, chunk_means, at_colon}
use Rattle.line.specs.Forms.{Side, check_of, is_first_field}
use Rattle.line.specs.Lines.{Message, fields_of}
use Rattle.line.specs.Meanings.{side_of, placed, body_fields, message_of}
use Rattle.line.specs.Fields.{body_of, raw_fields}
use Rattle.line.specs.Reads.{behind}
use Rattle.std.specs.List.{slice_get}
use Rattle.line.specs.declared.message.Message.{Message as Held}
use Rattle.line.proofs.Indices.{message_fields}
use Rattle.line.specs.declared.fault.Fault.{Fault}
use Rattle.line.specs.declared.fault.Fault.TheVariants.{TooLong}
use Rattle.writer.specs.Canonical.{in_two_digits, address_text, ended, body_text, head_text, closed, canonical, first_formed}
use Rattle.writer.specs.Writing.{Lies, Heads, line_head, first_given, mark_fault, first_fault, head_fault, line_fault}
use Rattle.writer.specs.declared.head.Head.{Head}
use Rattle.writer.specs.Rewriting.{forms_fault, first_of_both, rewrite_fault, rewrite_answer, rewritten, respelt}
use Rattle.writer.proofs.Addresses.{never}
use Rattle.writer.proofs.Backs.{tame_first}
use Rattle.writer.proofs.Opening.{first_decides, head_forms, line_head_is}
use Rattle.writer.proofs.Repeating.{body_parts}

plain_piece : (b : ℕ) (ts : List Token) → (b ≡ 58 → ⊥) → spelled b ++ respelt ts ≡ respelt (plain b ∷ ts)
plain_piece b ts other = rw (ne_eqb b 58 other)

colon_piece : (b : ℕ) (ts : List Token) → b ≡ 58 → respelt (plain b ∷ ts) ≡ 58 ∷ respelt ts
colon_piece b ts e = ap (λ (c : ℕ). respelt (plain c ∷ ts)) e

-- the fields and the colons between them
abbrev between_colons : List (List ℕ) → List ℕ
between_colons [] = []
between_colons (p ∷ []) = spelling (resolved p)
between_colons (p ∷ q ∷ ps) = ended (resolved p) ++ between_colons (q ∷ ps)

colon_before : (ps : List (List ℕ)) → ps ≡ ahead [] ps → between_colons ([] ∷ ps) ≡ 58 ∷ between_colons ps
colon_before [] e = let z : ◌≡◌ {A = ℕ} 0 1 = cc in absurd (omega arith)
colon_before (p ∷ ps) e = refl

byte_before : (xs : List ℕ) (b : ℕ) (ps : List (List ℕ)) → ps ≡ ahead [] ps → ((p : List ℕ) → resolved (xs ++ p) ≡ b ∷ resolved p) → between_colons (ahead xs ps) ≡ spelled b ++ between_colons ps
byte_before xs b [] e w = let z : ◌≡◌ {A = ℕ} 0 1 = cc in absurd (omega arith)
byte_before xs b (p ∷ []) e w = ap spelling (w p)
byte_before xs b (p ∷ q ∷ ps) e w =
    ap (λ (f : List ℕ). ended f ++ between_colons (q ∷ ps)) (w p)
    ∙ ap (λ (x : List ℕ). x ++ between_colons (q ∷ ps)) (append_assoc (spelled b) (spelling (resolved p)) (58 ∷ []))
    ∙ append_assoc (spelled b) (ended (resolved p)) (between_colons (q ∷ ps))

pub respelt_parts : (s : List ℕ) → respelt (tokens s) ≡ between_colons (parts 58 s)
respelt_parts =
    by_tokens (λ s. respelt (tokens s) ≡ between_colons (parts 58 s))
    refl
    (λ b s ne later. one b s ne later (cases_eq b 58))
    (λ e b s w later.
    ap respelt (tokens_escape w s) ∙ ap (λ (x : List ℕ). spelled b ++ x) later
    ∙ sym (ap (λ (ts : List Token). between_colons (parts_of 58 ts)) (tokens_escape w s) ∙ byte_before (92 ∷ e) b (parts 58 s) (ahead_none 58 (tokens s)) (λ p. ap bytes_meant (tokens_escape w p))))
    (λ rest e.
    ap respelt e ∙ sym (ap (λ (ts : List Token). between_colons (parts_of 58 ts)) e ∙ ap (λ (x : List ℕ). spelling (resolved x)) (append-nil (92 ∷ rest)) ∙ ap (λ (ts : List Token). spelling (bytes_meant ts)) e))
  where
    one : (b : ℕ) (s : List ℕ) → (b ≡ 92 → ⊥) → respelt (tokens s) ≡ between_colons (parts 58 s) → (b ≡ 58) ⊎ (b ≡ 58 → ⊥) → respelt (tokens (b ∷ s)) ≡ between_colons (parts 58 (b ∷ s))
    one b s ne later (inl e) =
        ap respelt (tokens_plain b s ne) ∙ colon_piece b (tokens s) e ∙ ap (λ (x : List ℕ). 58 ∷ x) later
        ∙ sym (ap (λ (ts : List Token). between_colons (parts_of 58 ts)) (tokens_plain b s ne) ∙ ap between_colons (parts_here 58 b (tokens s) e) ∙ colon_before (parts 58 s) (ahead_none 58 (tokens s)))
    one b s ne later (inr other) =
        ap respelt (tokens_plain b s ne) ∙ sym (plain_piece b (tokens s) other) ∙ ap (λ (x : List ℕ). spelled b ++ x) later
        ∙ sym (ap (λ (ts : List Token). between_colons (parts_of 58 ts)) (tokens_plain b s ne) ∙ ap between_colons (parts_other 58 b (tokens s) other) ∙ byte_before (b ∷ []) b (parts 58 s) (ahead_none 58 (tokens s)) (λ p. ap bytes_meant (tokens_plain b p ne)))

ended_all : (fs : List (List ℕ)) → between_colons (fs ++ ([] ∷ [])) ≡ body_text (map resolved fs)
ended_all [] = refl
ended_all (f ∷ []) = refl
ended_all (f ∷ g ∷ fs) = ap (λ (x : List ℕ). ended (resolved f) ++ x) (ended_all (g ∷ fs))

-- the body of a message whose first field has its form
pub respelt_body : (side : Side) (body : List ℕ) → first_formed side (body_fields (fields_of body)) ≡ true → body_text (body_fields (fields_of body)) ≡ respelt (tokens body)
respelt_body side body h = go (fields_of body) refl h
  where
    go : (o : Option (List ℕ × List (List ℕ))) → fields_of body ≡ o → first_formed side (body_fields o) ≡ true → body_text (body_fields o) ≡ respelt (tokens body)
    go None e h = never h
    go (Some f) e h =
        let same : resolved f.0 ≡ f.0 = chunk_means 58 f.0 f.0 (chunk_tame 58 f.0 at_colon (tame_first side f.0 h)) in
        ap (λ (x : List ℕ). body_text (x ∷ map resolved f.1)) (sym same) ∙ sym (ended_all (f.0 ∷ f.1)) ∙ ap between_colons (sym (body_parts body f e)) ∙ sym (respelt_parts body)

-- ---- answers
pub record Rewrote (m : Message) (out new : List ℕ) (r : Result ℕ Fault) : Type 0 where
  pub answer : r ≡ rewrite_answer (canonical m) (rewrite_fault m (length out))
  pub after : new ≡ rewritten (canonical m) out (rewrite_fault m (length out))

-- what refuses the form of a message, and else what refuses the length of its line
pub refuses_form : (m : Message) (out : List ℕ) (f : Fault) → Some f ≡ forms_fault m → Rewrote m out out (Err f)
refuses_form m out f e = refuses m out f (ap (λ (o : Option Fault). first_of_both o (line_fault (length (canonical m)) (length out))) e)
  where
    refuses : (m : Message) (out : List ℕ) (f : Fault) → Some f ≡ rewrite_fault m (length out) → Rewrote m out out (Err f)
    refuses m out f e = record { answer = ap (rewrite_answer (canonical m)) e; after = ap (rewritten (canonical m) out) e }

module _ (m : Message) (out : List ℕ) (form : None ≡ forms_fault m) where
  by_length : line_fault (length (canonical m)) (length out) ≡ rewrite_fault m (length out)
  by_length = ap (λ (o : Option Fault). first_of_both o (line_fault (length (canonical m)) (length out))) form

  pub refuses_line : (f : Fault) → Some f ≡ line_fault (length (canonical m)) (length out) → Rewrote m out out (Err f)
  refuses_line f e = record { answer = ap (rewrite_answer (canonical m)) (e ∙ by_length); after = ap (rewritten (canonical m) out) (e ∙ by_length) }

  pub refuses_long : 1024 < length (canonical m) → Rewrote m out out (Err TooLong)
  refuses_long h = refuses_line TooLong (sym (rw (lt-leb (length (canonical m)) 1024 h)))

  pub wrote : (new : List ℕ) (n : ℕ) → None ≡ line_fault (length (canonical m)) (length out) → Lies out (canonical m) new n → Rewrote m out new (Ok n)
  wrote new n e lies = record { answer = ap Ok lies.len ∙ ap (rewrite_answer (canonical m)) (e ∙ by_length); after = lies.held ∙ ap (rewritten (canonical m) out) (e ∙ by_length) }

-- the first field of a message, from the part of its line
pub first_is : (side : Side) (m : Held) (o : Option (Bor (List ℕ))) → behind o ≡ slice_get (raw_fields (fields_of (body_of m))) 0 → first_given side o ≡ first_formed side (message_of m).fields
first_is side m o e = go (fields_of (body_of m)) o e ∙ ap (first_formed side) (sym (message_fields m))
  where
    go : (fs : Option (List ℕ × List (List ℕ))) (o : Option (Bor (List ℕ))) → behind o ≡ slice_get (raw_fields fs) 0 → first_given side o ≡ first_formed side (body_fields fs)
    go None None e = refl
    go None (Some r) e = let z : ◌≡◌ {A = ℕ} 0 1 = cc in absurd (omega arith)
    go (Some f) None e = let z : ◌≡◌ {A = ℕ} 0 1 = cc in absurd (omega arith)
    go (Some f) (Some r) e = let s : r.now ≡ f.0 = cc in ap (is_first_field side) s

-- the first field decides where the mark refuses nothing
pub first_by : (m : Held) (first : Option (Bor (List ℕ))) (h : Head) → Heads h (message_of m).side (message_of m).address (message_of m).mark → behind first ≡ slice_get (raw_fields (fields_of (body_of m))) 0
    → None ≡ mark_fault (message_of m).side (message_of m).address (message_of m).mark → first_fault (placed h.address) (first_given (side_of h.side) first) ≡ forms_fault (message_of m)
first_by m first h same e none =
    let n = message_of m in
    first_decides n.side n.address n.mark first h same none ∙ ap (head_fault n.side n.address n.mark) (first_is n.side m first e)

-- the canonical line of a message, from its head and its body
module _ (m : Held) (form : None ≡ forms_fault (message_of m)) (h : Head) (body : List ℕ) (same : Heads h (message_of m).side (message_of m).address (message_of m).mark) (eb : body ≡ body_of m) where
  pub canonical_is : canonical (message_of m) ≡ closed (line_head h ++ respelt (tokens body))
  canonical_is =
      let side = (message_of m).side in
      let forms = head_forms side (message_of m).address (message_of m).mark (first_formed side (message_of m).fields) form in
      let first : first_formed side (body_fields (fields_of (body_of m))) ≡ true = subst (λ (fs : List (List ℕ)). first_formed side fs ≡ true) (message_fields m) forms.1 in
      let text : body_text (message_of m).fields ≡ respelt (tokens body) = ap body_text (message_fields m) ∙ respelt_body side (body_of m) first ∙ ap (λ (b : List ℕ). respelt (tokens b)) (sym eb) in
      ap (λ (x : List ℕ). closed (head_text (address_text (message_of m).address) (message_of m).mark ++ x)) text
      ∙ ap (λ (x : List ℕ). closed (x ++ respelt (tokens body))) (sym (line_head_is h side (message_of m).address (message_of m).mark same))

  pub canonical_size : length (canonical (message_of m)) ≡ length (line_head h) + length (respelt (tokens body)) + 3
  canonical_size =
      let l = line_head h ++ respelt (tokens body) in
      omega (arith, ap length canonical_is, length-append l (47 ∷ in_two_digits (check_of (l ++ (47 ∷ [])))), length-append (line_head h) (respelt (tokens body)))
