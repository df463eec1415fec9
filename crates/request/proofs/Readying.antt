-- A command that can be sent is kept and written again, whatever the buffer, if that is long enough for any line.
use Rattle.std.proofs.Common.{◌≡◌, ℕ, ◌+◌, ◌%◌, ◌≤◌, true, leb, List, length, is_some, Some, None, Ok, Option, Result, sym, refl, ap, ◌∙◌, subst, arith}
use Rattle.std.proofs.lemmas.Bool.{leb-true, le-leb}
use Rattle.std.specs.Option.{option_map}
use Rattle.escape.specs.Tokens.{digit}
use Rattle.line.specs.Forms.{is_mark}
use Rattle.line.specs.Lines.{Message, meant}
use Rattle.line.specs.declared.fault.Fault.{Fault}
use Rattle.writer.specs.Canonical.{canonical, is_address, first_formed, formed, sendable}
use Rattle.writer.proofs.Addresses.{both, digit_is}
use Rattle.life.specs.Link.{begun}
use Rattle.numbers.specs.Browse.{is_command}
use Rattle.numbers.specs.Ours.{ours, all_bytes, sendable_command}
use Rattle.numbers.specs.Slots.{pending_of, begins}
use Rattle.numbers.specs.declared.slot.Pending.{Pending}
use Rattle.numbers.proofs.Kept.{sendable_begins}
use Rattle.writer.specs.Rewriting.{rewrite_fault, rewrite_answer}
use Rattle.request.specs.Requests.{request_read}
use Rattle.request.specs.Laws.{Ready}
use Rattle.request.specs.Preparing.{LiesReady, Prepares}
use Rattle.request.specs.declared.preparing.Prepared.{Prepared}
use Rattle.request.proofs.Judging.{sends}

pub record Fine (m : Message) (room : ℕ) : Type 0 where
  pub fault : rewrite_fault m room ≡ None
  pub short : length (canonical m) ≤ 1024

pub fine : (m : Message) (room : ℕ) → sendable_command m ≡ true → 1024 ≤ room → Fine m room
fine m room e h =
    let p = both (is_command m.side) _ e in
    let q = both (all_bytes m.fields) (sendable m) p.1 in
    let f = both (formed m) (leb (length (canonical m)) 1024) q.1 in
    let g = both (is_address m.side m.address) _ f.0 in
    let k = both (is_mark m.side m.mark) (first_formed m.side m.fields) g.1 in
    let short = leb-true (length (canonical m)) 1024 f.1 in
    record { fault = rw (k.0, k.1, f.1) (rw (le-leb (length (canonical m)) room (omega arith))); short = short }

pub kept : (m : Message) (o : Option Pending) → sendable_command m ≡ true → option_map pending_of o ≡ begins m → is_some o ≡ true
kept m None e h = let k = sendable_begins m e in let z : ◌≡◌ {A = ℕ} 0 1 = cc in absurd (omega arith)
kept m (Some p) e h = refl

pub kept_as : (m : Message) (o : Option Pending) (p : Pending) → sendable_command m ≡ true → option_map pending_of o ≡ begins m → o ≡ Some p → pending_of p ≡ begun ours m
kept_as m o p e h is = let k : Some (pending_of p) ≡ Some (begun ours m) = ap (option_map pending_of) (sym is) ∙ h ∙ sendable_begins m e in cc

pub goes_well : (l : List ℕ) (o : Option Fault) (r : Result ℕ Fault) → o ≡ None → r ≡ rewrite_answer l o → r ≡ Ok (length l)
goes_well l o r e h = h ∙ ap (rewrite_answer l) e

digit_of : (n : ℕ) → digit (48 + n % 10) ≡ true
digit_of n = digit_is (48 + n % 10) (omega arith) (omega arith)

-- what was read is a command that can be sent, with the number's digit for its mark
pub read_ready : (a b : List ℕ) (n d : ℕ) (m : Message) → d ≡ 48 + n % 10 → meant m ≡ request_read a d b → (meant m ≡ request_read a (48 + n % 10) b) × Ready (48 + n % 10) m
read_ready a b n d m is e =
    let f : meant m ≡ request_read a (48 + n % 10) b = subst (λ (k : ℕ). meant m ≡ request_read a k b) is e in
    (f, sends a b (48 + n % 10) m (digit_of n) (sym {b = request_read a (48 + n % 10) b} f))

pub prepares : (a b was out : List ℕ) (n d : ℕ) (m : Message) (p : Prepared) → d ≡ 48 + n % 10 → meant m ≡ request_read a d b → LiesReady m was out p
    → Prepares (request_read a (48 + n % 10) b) (48 + n % 10) was out p
prepares a b was out n d m p is e lies =
    let w = read_ready a b n d m is e in
    record { message = m; means = sym {b = request_read a (48 + n % 10) b} w.0; mark = w.1.mark; sends = w.1.sends; lies = lies }
