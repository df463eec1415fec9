-- Two texts written to the front of a buffer, one behind the other.
use Rattle.std.proofs.Common.{◌≡◌, ℕ, ◌+◌, ◌-◌, ◌≤◌, Bool, true, false, cond, leb, ◌<◌, List, ◌++◌, length, take, drop, sym, ap, ◌∙◌, arith, length-append, rules}
use borrow.Rule.Slice.PartMut.{put_mid}
use Rattle.std.proofs.lemmas.List.{same_lists, places}
use Rattle.std.proofs.lemmas.Bool.{le-leb, lt-leb}
use Rattle.escape.specs.Resolving.{written}
use Rattle.line.specs.Lines.{Message}
use Rattle.record.specs.Records.{field_of, texts}

put_behind : (a b out mid rest : List ℕ) (n : ℕ) → n ≡ length a → length a + length b ≤ length out → mid ≡ a ++ drop (length a) out → rest ≡ b ++ drop (length b) (take (length mid - n) (drop n mid))
    → put_mid n (length mid - n) mid rest ≡ (a ++ b) ++ drop (length (a ++ b)) out
put_behind a b out mid rest n e h is put = rw (put, is) (same_lists _ _ (search (rules, places)) (λ i d l. grind (arith, places)))

-- bytes for which there is room
pub there : (bs out : List ℕ) → length bs ≤ length out → written bs out ≡ bs ++ drop (length bs) out
there bs out h = ap (λ (t : Bool). cond t (bs ++ drop (length bs) out) out) (le-leb (length bs) (length out) h)

pub put_both : (a b out mid rest : List ℕ) (n : ℕ) → n ≡ length a → length a + length b ≤ length out → mid ≡ written a out → rest ≡ written b (take (length mid - n) (drop n mid))
    → put_mid n (length mid - n) mid rest ≡ written (a ++ b) out
put_both a b out mid rest n e h is put =
    let is2 : mid ≡ a ++ drop (length a) out = is ∙ there a out (omega arith) in
    let size : length mid ≡ length out = ap length is2 ∙ search (rules, places) in
    let room : length (take (length mid - n) (drop n mid)) ≡ length mid - n = search (rules, places) in
    put_behind a b out mid rest n e h is2 (put ∙ there b (take (length mid - n) (drop n mid)) (omega arith))
    ∙ sym (there (a ++ b) out (omega (arith, length-append a b)))

-- of a message
pub texts_length : (m : Message) (a b : List ℕ) (n k : ℕ) → a ≡ field_of m 1 → b ≡ field_of m 2 → n ≡ length a → k ≡ length b → n + k ≡ length (texts m)
unfolding texts
texts_length m a b n k ea eb en ek = omega (arith, length-append (field_of m 1) (field_of m 2), ap length ea, ap length eb)

pub texts_are : (m : Message) (a b : List ℕ) → a ≡ field_of m 1 → b ≡ field_of m 2 → a ++ b ≡ texts m
unfolding texts
texts_are m a b ea eb = cc

pub no_room : (m : Message) (n k room : ℕ) → n + k ≡ length (texts m) → room < n + k → leb (length (texts m)) room ≡ false
no_room m n k room e h = lt-leb (length (texts m)) room (omega arith)

pub some_room : (m : Message) (n k room : ℕ) → n + k ≡ length (texts m) → n + k ≤ room → leb (length (texts m)) room ≡ true
some_room m n k room e h = le-leb (length (texts m)) room (omega arith)
