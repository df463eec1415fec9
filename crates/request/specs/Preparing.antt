-- What preparing a request answers: its command's canonical line at the buffer's front, or the fault that reading it tells.
use Rattle.std.specs.Prelude.{◌≡◌, ℕ, ◌≤◌, true, List, ◌++◌, length, drop, Ok, Err, Result}
use Rattle.line.specs.Lines.{Message, Read, meant}
use Rattle.line.specs.Meanings.{told}
use Rattle.line.specs.declared.fault.Fault.{Fault}
use Rattle.writer.specs.Canonical.{canonical}
use Rattle.life.specs.Link.{begun}
use Rattle.numbers.specs.Ours.{ours, sendable_command}
use Rattle.numbers.specs.Slots.{pending_of}
use Rattle.request.specs.declared.preparing.Prepared.{Prepared}

-- the canonical line of `m` lies at the front of a buffer that held `was`, whose rest is untouched; and what a link keeps of `m`
pub record LiesReady (m : Message) (was out : List ℕ) (p : Prepared) : Type 0 where
  pub length_of : p.length ≡ length (canonical m)
  pub short : length (canonical m) ≤ 1024
  pub held : out ≡ canonical m ++ drop (length (canonical m)) was
  pub pending : pending_of p.pending ≡ begun ours m

-- the request means a command that can be sent, with the digit for its mark
pub record Prepares (read : Read) (digit : ℕ) (was out : List ℕ) (p : Prepared) : Type 0 where
  pub message : Message
  pub means : read ≡ meant message
  pub mark : message.mark ≡ digit
  pub sends : sendable_command message ≡ true
  pub lies : LiesReady message was out p

-- a refusal tells what reading tells, and touches nothing
abbrev pub Outcome : Read → ℕ → List ℕ → List ℕ → Result Prepared Fault → Type 0
Outcome read digit was out (Ok p) = Prepares read digit was out p
Outcome read digit was out (Err f) = (told f ≡ read) × (out ≡ was)
