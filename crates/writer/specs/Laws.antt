-- What holds of canonical lines.
use Rattle.std.specs.Prelude.{◌≡◌, ℕ, ◌+◌, ◌<◌, ◌≤◌, Bool, true, false, List, length, is_some, Some, None, Option, nat_le}
use Rattle.std.specs.List.{AllByRecursion}
use Rattle.escape.specs.Tokens.{parts}
use Rattle.line.specs.Forms.{Side}
use Rattle.line.specs.Lines.{Message, Parts, meant, parted, reading}
use Rattle.writer.specs.Canonical.{canonical, formed, sendable}

-- the fields are bytes
abbrev pub Bytes : List (List ℕ) → Type 0
Bytes fields = AllByRecursion (λ f. AllByRecursion (λ b. b < 256) f) fields

-- the canonical line of a message means that message
abbrev pub ReadsBack : Type 0
ReadsBack = (m : Message) → sendable m ≡ true → Bytes m.fields → reading m.side (canonical m) ≡ meant m

-- two messages with one canonical line are one message
abbrev pub OneMessage : Type 0
OneMessage = (m n : Message) → sendable m ≡ true → sendable n ≡ true → Bytes m.fields → Bytes n.fields → canonical m ≡ canonical n → m ≡ n

-- ---- reading a line, and writing what was read
abbrev pub keeps_check : Option Parts → Bool
keeps_check None = false
keeps_check (Some p) = is_some p.check

abbrev pub has_check : Side → List ℕ → Bool
has_check side line = keeps_check (parted side (parts 47 line))

-- what was read has its forms, so it can be sent just if its canonical line is not too long; that line is no longer than the one that was read, or, where that had no check, no longer than it with one
pub record WrittenAgain (line : List ℕ) (checked : Bool) (m : Message) : Type 0 where
  pub form : formed m ≡ true
  pub bytes : Bytes m.fields
  pub sends : sendable m ≡ nat_le (length (canonical m)) 1024
  pub no_longer : checked ≡ true → length (canonical m) ≤ length line
  pub with_check : length (canonical m) ≤ length line + 3

abbrev pub WritesAgain : Type 0
WritesAgain = (side : Side) (line : List ℕ) (m : Message) → reading side line ≡ meant m → WrittenAgain line (has_check side line) m
