-- What the promises need to know of the codec. They are proved of every codec that keeps these laws.
use Rattle.std.specs.Prelude.{◌≡◌, ℕ, ◌<◌, ◌≤◌, Bool, true, false, cond, List, [], ◌∷◌, length, take, Option}
use Rattle.line.specs.Forms.{Address}
use Rattle.line.specs.Lines.{Message, Read, meant, faulty}
use Rattle.reader.specs.Cutting.{is_end, Part}

pub record Codec : Type 0 where
  -- what one line, without its end, is read as: by the link as an answer, by the player as a command
  pub as_answer : List ℕ → Read
  pub as_command : List ℕ → Read
  -- the line that is written for a message, without its end
  pub canonical : Message → List ℕ
  -- a command message that can be written: its parts have their forms, and its canonical line has at most 1,024 bytes
  pub sendable : Message → Bool
  -- the two addresses are those of one device and zone
  pub same_address : Address → Address → Bool
  -- a command named BROWSE
  pub is_browse : Message → Bool
  -- an answer of status 000
  pub okay : Message → Bool
  -- of an overview, how many result lines follow it
  pub overview : Message → Option ℕ
  -- of a result line, which one it is, from 1
  pub result : Message → Option ℕ

abbrev pub no_ends : List ℕ → Bool
no_ends [] = true
no_ends (b ∷ bs) = cond (is_end b) false (no_ends bs)

-- one line, without its end, that the other side can read: not empty, not too long, and with no end inside
pub record Plain (l : List ℕ) : Type 0 where
  pub not_empty : 0 < length l
  pub short : length l ≤ 1024
  pub clean : no_ends l ≡ true

-- the laws
pub record Lawful (K : Codec) : Type 0 where
  -- a line of more than 1,024 bytes has fault 1, at place 1,024
  pub too_long : (l : List ℕ) → 1024 < length l → K.as_answer l ≡ faulty 1 1024
  pub answer_plain : (l : List ℕ) (m : Message) → K.as_answer l ≡ meant m → Plain l
  pub canonical_plain : (m : Message) → K.sendable m ≡ true → Plain (K.canonical m)
  -- what is written for a message is read as that message
  pub canonical_reads : (m : Message) → K.sendable m ≡ true → K.as_command (K.canonical m) ≡ meant m

-- a whole line as pump shows it: what stands of it in the buffer, and its reading
abbrev pub as_shown : Codec → List ℕ → List ℕ × Read
as_shown K l = (take 1024 l, K.as_answer l)

-- the reading of a line of which at most 1,024 bytes are held
abbrev pub read_part : Codec → Part → Read
read_part K p = cond p.over (faulty 1 1024) (K.as_answer p.kept)
