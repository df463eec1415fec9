-- What submit answers and does.
use Rattle.std.specs.Prelude.{◌≡◌, ℕ, ◌+◌, ◌<◌, ◌≤◌, true, List, [], length, take, None, Ok, Err, Result, ◌≢◌}
use Rattle.escape.specs.Tokens.{digit}
use Rattle.line.specs.Forms.{command}
use Rattle.line.specs.Lines.{Message, Read, meant, faulty}
use Rattle.line.specs.Meanings.{told}
use Rattle.line.specs.declared.fault.Fault.{Fault}
use Rattle.line.specs.declared.fault.Fault.TheVariants.{NoNumber, NoRoom}
use Rattle.writer.specs.Canonical.{canonical}
use Rattle.life.specs.Calls.{Call, quiet, submitted}
use Rattle.life.specs.Link.{State, is_free, FirstFree, begun, ended_line, Submits}
use Rattle.numbers.specs.Ours.{ours, sendable_command}
use Rattle.numbers.specs.Slots.{pending_of}
use Rattle.request.specs.Requests.{request_read}
use Rattle.request.specs.declared.preparing.Prepared.{Prepared}
use Rattle.link.specs.declared.ticket.Ticket.{Ticket}

-- ---- accepted: the request, with the number of the ticket for its mark, means the message that was sent
pub record Accepts (s : State) (address body : List ℕ) (link n : ℕ) (t : State) : Type 0 where
  pub message : Message
  pub means : request_read address (48 + n) body ≡ meant message
  pub submits : Submits ours s n message t
  pub of_link : link ≡ s.link

-- ---- refused: the first of these that applies
pub data Why (s : State) (address body : List ℕ) : Fault → Type 0 where
  -- 1 to 10: as reading the request as a command line refuses, whatever the digit
  unreadable : (f : Fault) → ((d : ℕ) → digit d ≡ true → request_read address d body ≡ told f) → Why s address body f
  -- 12: none of the ten numbers is free
  no_number : (m : Message) → request_read address 48 body ≡ meant m → ((n : ℕ) → n < 10 → s.slots n ≢ is_free) → Why s address body NoNumber
  -- 13: the port has no room for the line and its end
  no_room : (n : ℕ) (m : Message) → FirstFree s.slots s.recent n → request_read address (48 + n) body ≡ meant m
      → s.port.room_out < length (canonical m) + 1 → Why s address body NoRoom

abbrev pub Submitted : State → List ℕ → List ℕ → Result Ticket Fault → State → Type 0
Submitted s address body (Ok ticket) t = Accepts s address body ticket.link ticket.number t
Submitted s address body (Err f) t = (t ≡ s) × Why s address body f

-- ---- the entry of a submit in a history
abbrev pub message_in : Read → Message
message_in (meant m) = m
message_in (faulty number place) = record { side = command; address = record { device = []; zone = None }; mark = 0; fields = [] }

abbrev pub submit_entry : List ℕ → List ℕ → Result Ticket Fault → Call
submit_entry address body (Ok ticket) = submitted ticket.number (message_in (request_read address (48 + ticket.number) body))
submit_entry address body (Err f) = quiet

-- ---- the line that is written
-- the front of the buffer is the command's line with its end
pub record LineReady (read : Read) (d : ℕ) (out : List ℕ) (p : Prepared) : Type 0 where
  pub message : Message
  pub means : read ≡ meant message
  pub mark : message.mark ≡ d
  pub sends : sendable_command message ≡ true
  pub length_of : p.length ≡ length (canonical message)
  pub short : p.length ≤ 1024
  pub front : take (p.length + 1) out ≡ ended_line ours message
  pub pending : pending_of p.pending ≡ begun ours message

abbrev pub Lined : Read → ℕ → List ℕ → Result Prepared Fault → Type 0
Lined read d out (Ok p) = LineReady read d out p
Lined read d out (Err f) = told f ≡ read
