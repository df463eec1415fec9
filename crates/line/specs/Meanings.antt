-- What the values of the code mean: every case of each enum by its number and values.
use Rattle.std.specs.Prelude.{ℕ, cond, List, [], ◌∷◌, map, Some, None, Ok, Err, Option, Result, ◌==◌, nat_le}
use Rattle.std.specs.Option.{unwrap_or}
use Rattle.escape.specs.Tokens.{resolved}
use Rattle.line.specs.Forms.{Address, command, answer}
use Rattle.line.specs.Forms.{Side as Said}
use Rattle.line.specs.Lines.{Read, meant, faulty, fields_of}
use Rattle.line.specs.Lines.{Message as Meaning}
use Rattle.line.specs.declared.message.Side.{Side}
use Rattle.line.specs.declared.message.Side.TheVariants.{Command as CommandSide, Answer as AnswerSide}
use Rattle.line.specs.declared.message.Address.{Address as Place}
use Rattle.line.specs.declared.message.Message.{Message}
use Rattle.line.specs.declared.message.Message.TheVariants.{Answer, Event, Command}
use Rattle.line.specs.declared.fault.Fault.{Fault}
use Rattle.line.specs.declared.fault.Fault.TheVariants.{TooLong, Invisible, BadEscape, Slashes, BadAddress, BadMark, CheckForm, CheckSum, BodyEnd, FirstField, PumpBuffer, NoNumber, NoRoom, ShortBuffer, NoField, RecordForm}
use Rattle.line.specs.declared.fault.Layer.{Layer}
use Rattle.line.specs.declared.fault.Layer.TheVariants.{Line, Parts as PartsLayer, Body, Record}

abbrev pub side_of : Side → Said
side_of CommandSide = command
side_of AnswerSide = answer

-- ---- faults
abbrev pub number_of : Fault → ℕ
number_of TooLong = 1
number_of (Invisible p) = 2
number_of (BadEscape p) = 3
number_of (Slashes p) = 4
number_of BadAddress = 5
number_of (BadMark p) = 6
number_of (CheckForm p) = 7
number_of (CheckSum p) = 8
number_of (BodyEnd p) = 9
number_of (FirstField p) = 10
number_of PumpBuffer = 11
number_of NoNumber = 12
number_of NoRoom = 13
number_of ShortBuffer = 14
number_of (NoField i) = 15
number_of (RecordForm i) = 16

abbrev pub place_of : Fault → Option ℕ
place_of TooLong = Some 1024
place_of (Invisible p) = Some p
place_of (BadEscape p) = Some p
place_of (Slashes p) = Some p
place_of BadAddress = Some 0
place_of (BadMark p) = Some p
place_of (CheckForm p) = Some p
place_of (CheckSum p) = Some p
place_of (BodyEnd p) = Some p
place_of (FirstField p) = Some p
place_of PumpBuffer = None
place_of NoNumber = None
place_of NoRoom = None
place_of ShortBuffer = None
place_of (NoField i) = Some i
place_of (RecordForm i) = Some i

-- 1 to 3 are told of the line, 4 to 8 of its parts, 9 and 10 of its body, 15 and 16 of the fields of a message; 11 to 14 are numbers alone
abbrev pub layer_of : ℕ → Option Layer
layer_of n =
    cond (nat_le n 3) (Some Line)
    (cond (nat_le n 8) (Some PartsLayer)
    (cond (nat_le n 10) (Some Body)
    (cond (n == 15) (Some Record)
    (cond (n == 16) (Some Record) None))))

-- a fault of a line always has a place
abbrev pub told : Fault → Read
told f = faulty (number_of f) (unwrap_or (place_of f) 0)

-- ---- messages
abbrev pub placed : Place → Address
placed a = record { device = a.device.now; zone = a.zone }

abbrev pub body_fields : Option (List ℕ × List (List ℕ)) → List (List ℕ)
body_fields None = []
body_fields (Some f) = f.0 ∷ map resolved f.1

abbrev pub message_of : Message → Meaning
message_of (Answer a m b) = record { side = answer; address = placed a; mark = m; fields = body_fields (fields_of b.now) }
message_of (Event a b) = record { side = answer; address = placed a; mark = 33; fields = body_fields (fields_of b.now) }
message_of (Command a m b c) = record { side = command; address = placed a; mark = m; fields = body_fields (fields_of b.now) }

abbrev pub read_of : Result Message Fault → Read
read_of (Ok m) = meant (message_of m)
read_of (Err f) = told f

-- the check that a message keeps: that of a command, if it has one
abbrev pub check_said : Message → Option ℕ
check_said (Answer a m b) = None
check_said (Event a b) = None
check_said (Command a m b c) = c
