-- What holds of requests, whatever their digit.
use Rattle.std.specs.Prelude.{◌≡◌, ℕ, true, List}
use Rattle.escape.specs.Tokens.{digit}
use Rattle.line.specs.Lines.{Message, Read, meant, faulty}
use Rattle.numbers.specs.Ours.{sendable_command}
use Rattle.request.specs.Requests.{request_read}

-- the same message with another mark; a fault as it is
abbrev pub marked : ℕ → Read → Read
marked digit (meant m) = meant (record { side = m.side; address = m.address; mark = digit; fields = m.fields })
marked digit (faulty number place) = faulty number place

-- nothing that is told of a request depends on its digit, and of its message only the mark
abbrev pub DigitUntold : Type 0
DigitUntold = (address body : List ℕ) (d e : ℕ) → digit d ≡ true → digit e ≡ true → request_read address e body ≡ marked e (request_read address d body)

-- a command that can be sent, with the digit for its mark
pub record Ready (d : ℕ) (m : Message) : Type 0 where
  pub mark : m.mark ≡ d
  pub sends : sendable_command m ≡ true

-- what a request means can be sent
abbrev pub Sends : Type 0
Sends = (address body : List ℕ) (d : ℕ) (m : Message) → digit d ≡ true → request_read address d body ≡ meant m → Ready d m
