-- The codec of the link, as the promises speak of it: the readings and the canonical line of control lines, and the BROWSE rules.
use Rattle.std.specs.Prelude.{ℕ, Bool, true, false, cond, List, [], ◌∷◌, Option, nat_eq, nat_lt}
use Rattle.std.specs.Option.{option_eq}
use Rattle.escape.specs.Texts.{same_bytes}
use Rattle.line.specs.Forms.{command, answer, Address, every}
use Rattle.line.specs.Lines.{Message, Read, reading}
use Rattle.writer.specs.Canonical.{canonical, sendable}
use Rattle.life.specs.Codec.{Codec}
use Rattle.numbers.specs.Browse.{is_command, is_browse, okay, overview, result}

abbrev pub all_bytes : List (List ℕ) → Bool
all_bytes [] = true
all_bytes (f ∷ fs) = cond (every (λ b. nat_lt b 256) f) (all_bytes fs) false

-- a command whose fields are bytes, with all its parts in their forms and a canonical line of at most 1,024 bytes
abbrev pub sendable_command : Message → Bool
sendable_command m = cond (is_command m.side) (cond (all_bytes m.fields) (sendable m) false) false

abbrev pub same_zone : Option ℕ → Option ℕ → Bool
same_zone = option_eq nat_eq

-- the same bytes for the device, and the same zone or none
abbrev pub same_address : Address → Address → Bool
same_address a b = cond (same_bytes a.device b.device) (same_zone a.zone b.zone) false

-- what comes from a player is read as an answer
-- Shut, since a link needs no more of the rules of reading than their outcome.
unfoldable pub as_answer : List ℕ → Read
as_answer l = reading answer l

abbrev pub ours : Codec
ours = record {
  as_answer = as_answer;
  as_command = reading command;
  canonical = canonical;
  sendable = sendable_command;
  same_address = same_address;
  is_browse = is_browse;
  okay = okay;
  overview = overview;
  result = result;
}
