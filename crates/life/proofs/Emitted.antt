-- The lines that the player emits: their bytes in a row, and the lines in answer to one command among them.
use Rattle.std.proofs.Common.{◌≡◌, ℕ, ◌<◌, Bool, true, false, eqb, List, [], ◌∷◌, ◌++◌, map, length, get_or, take, drop, sym, refl, ap, ◌∙◌, append_assoc, append-nil, arith, take-append-drop}
use Rattle.std.proofs.lemmas.List.{length-append, length-map, get_or-map, get_or_at}
use Rattle.std.proofs.lemmas.Bool.{eq-eqb, ne_eqb}
use Rattle.life.specs.Calls.{Line, event_line, empty_line, answer_line, Begins}
use Rattle.life.specs.Player.{line_bytes, all_bytes, answer_to}
use Rattle.life.specs.Promises.{not_empty}

abbrev pub text : Line → List ℕ
text (event_line l e) = l
text (empty_line e) = []
text (answer_line n l e) = l

pub all_bytes_push : (ls : List Line) (x : Line) → all_bytes (ls ++ (x ∷ [])) ≡ all_bytes ls ++ line_bytes x
all_bytes_push [] x = append-nil (line_bytes x)
all_bytes_push (l ∷ ls) x = ap (λ (z : List ℕ). line_bytes l ++ z) (all_bytes_push ls x) ∙ sym (append_assoc (line_bytes l) (all_bytes ls) (line_bytes x))

pub not_empty_append : (ks ls : List Line) → not_empty (ks ++ ls) ≡ not_empty ks ++ not_empty ls
not_empty_append [] ls = refl
not_empty_append (event_line l e ∷ ks) ls = ap (λ (z : List Line). event_line l e ∷ z) (not_empty_append ks ls)
not_empty_append (empty_line e ∷ ks) ls = not_empty_append ks ls
not_empty_append (answer_line n l e ∷ ks) ls = ap (λ (z : List Line). answer_line n l e ∷ z) (not_empty_append ks ls)

pub answer_append : (n : ℕ) (ks ls : List Line) → answer_to n (ks ++ ls) ≡ answer_to n ks ++ answer_to n ls
answer_append n [] ls = refl
answer_append n (event_line l e ∷ ks) ls = answer_append n ks ls
answer_append n (empty_line e ∷ ks) ls = answer_append n ks ls
answer_append n (answer_line k l e ∷ ks) ls = go (eqb k n) refl (answer_append n ks ls)
  where
    go : (v : Bool) → eqb k n ≡ v → answer_to n (ks ++ ls) ≡ answer_to n ks ++ answer_to n ls → answer_to n (answer_line k l e ∷ (ks ++ ls)) ≡ answer_to n (answer_line k l e ∷ ks) ++ answer_to n ls
    go true q ih = rw q (ap (λ (z : List (List ℕ)). l ∷ z) ih)
    go false q ih = rw q ih

pub answer_not_empty : (n : ℕ) (ls : List Line) → answer_to n (not_empty ls) ≡ answer_to n ls
answer_not_empty n [] = refl
answer_not_empty n (event_line l e ∷ ls) = answer_not_empty n ls
answer_not_empty n (empty_line e ∷ ls) = answer_not_empty n ls
answer_not_empty n (answer_line k l e ∷ ls) = rw (answer_not_empty n ls)

pub answer_same : (n : ℕ) (l : List ℕ) (e : ℕ) → answer_to n (answer_line n l e ∷ []) ≡ l ∷ []
answer_same n l e = rw (eq-eqb n n refl)

pub answer_other : (n k : ℕ) (l : List ℕ) (e : ℕ) → (k ≡ n → ⊥) → answer_to n (answer_line k l e ∷ []) ≡ []
answer_other n k l e ne = rw (ne_eqb k n ne)

pub begins_answer : (n j : ℕ) (ls : List Line) → Begins (answer_to n (take j ls)) (answer_to n ls)
begins_answer n j ls = (answer_to n (drop j ls), sym (answer_append n (take j ls) (drop j ls)) ∙ ap (answer_to n) (take-append-drop j ls))

nil_left : {X : Type 0} (xs ys : List X) → xs ++ ys ≡ [] → xs ≡ []
nil_left [] ys e = refl
nil_left (x ∷ xs) ys e = let z : ◌≡◌ {A = ℕ} 0 1 = cc in absurd (omega arith)

pub answer_none : (n j : ℕ) (ls : List Line) → answer_to n ls ≡ [] → answer_to n (take j ls) ≡ []
answer_none n j ls e = let b = begins_answer n j ls in nil_left (answer_to n (take j ls)) b.0 (b.1 ∙ e)

-- where `cut` are the first lines of a stream, and `line` is the one after them, that is the line emitted at this place
pub at_place : (es : List Line) (cut rest : List (List ℕ)) (line : List ℕ) (j : ℕ) → (cut ++ (line ∷ [])) ++ rest ≡ map text es → length cut ≡ j → (j < length es) × (text (get_or es j (empty_line 13)) ≡ line)
at_place es cut rest line j e is = (lt, sym (get_or-map text es j (empty_line 13) [] lt) ∙ sym (ap (λ (z : List (List ℕ)). get_or z j []) e) ∙ rw append_assoc (get_or_at cut line rest [] j is))
  where
    lengths : length ((cut ++ (line ∷ [])) ++ rest) ≡ length es
    lengths = ap length e ∙ length-map es text

    lt : j < length es
    lt = let k = length-append (cut ++ (line ∷ [])) rest in let k2 = length-append cut (line ∷ []) in let q = lengths in omega arith
