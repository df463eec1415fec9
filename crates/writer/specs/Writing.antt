-- What a writer's calls do: the message that is open, the buffer that it lies in, and why a call is refused.
use Rattle.std.specs.Prelude.{◌≡◌, ℕ, ◌+◌, ◌<◌, ◌≤◌, Bool, true, false, cond, List, [], ◌∷◌, ◌++◌, map, length, drop, is_some, Some, None, Ok, Err, Option, Result, OnOk, MatchResult, ◌==◌, nat_le}
use Rattle.std.specs.Borrow.{Bor}
use Rattle.line.specs.Forms.{Side, command, answer, Address, address_of, is_mark, is_first_field}
use Rattle.line.specs.Lines.{Message, meant, reading}
use Rattle.line.specs.Meanings.{side_of, placed}
use Rattle.line.specs.declared.fault.Fault.{Fault}
use Rattle.line.specs.declared.fault.Fault.TheVariants.{TooLong, BadAddress, BadMark, FirstField, ShortBuffer}
use Rattle.writer.specs.Canonical.{address_text, ended, body_text, head_text, canonical, formed, sendable}
use Rattle.writer.specs.Laws.{Bytes}
use Rattle.writer.specs.declared.head.Head.{Head}
use Rattle.writer.specs.declared.page.Writer.{Writer}

-- ---- messages as they are put together
abbrev pub address_read : Option Address → Address
address_read None = record { device = []; zone = None }
address_read (Some a) = a

-- a message with its first field alone
unfoldable pub begun : Side → List ℕ → ℕ → List ℕ → Message
begun side address mark first = record { side = side; address = address_read (address_of side address); mark = mark; fields = first ∷ [] }

unfoldable pub with_field : Message → List ℕ → Message
with_field m field = record { side = m.side; address = m.address; mark = m.mark; fields = m.fields ++ (field ∷ []) }

unfoldable pub with_fields : Message → List (List ℕ) → Message
with_fields m fields = record { side = m.side; address = m.address; mark = m.mark; fields = m.fields ++ fields }

abbrev pub is_answer : Side → Bool
is_answer command = false
is_answer answer = true

-- its line up to the third slash
abbrev pub unclosed : Message → List ℕ
unclosed m = head_text (address_text m.address) m.mark ++ body_text m.fields

-- ---- the buffer
-- the bytes `l` lie at the front of a buffer that held `was`, and its rest is as it was
pub record Lies (was l out : List ℕ) (n : ℕ) : Type 0 where
  pub len : n ≡ length l
  pub held : out ≡ l ++ drop (length l) was
  pub room : length out ≡ length was

-- the line of `m` is open: it lies in the buffer, and the check is still to come
pub record Opened (was : List ℕ) (m : Message) (out : List ℕ) (n : ℕ) : Type 0 where
  pub form : formed m ≡ true
  pub bytes : Bytes m.fields
  pub some : 0 < n
  pub lies : Lies was (unclosed m) out n

-- the line of `m` is closed: the buffer's front is its canonical line, which means `m`
pub record Closed (was : List ℕ) (m : Message) (out : List ℕ) (n : ℕ) : Type 0 where
  pub length_of : n ≡ length (canonical m)
  pub held : out ≡ canonical m ++ drop (length (canonical m)) was
  pub sent : sendable m ≡ true
  pub reads : reading m.side (canonical m) ≡ meant m

-- ---- what is put behind the bytes that are written
-- n bytes more, and the three that close a line, go into the buffer and into the longest line
pub record HasRoom (w : Writer) (n : ℕ) : Type 0 where
  pub buffer : w.len + n + 3 ≤ length w.out.now
  pub line : w.len + n + 3 ≤ 1024

-- the bytes are put behind those that are written, in the same buffer
pub record Pushed (before after : Writer) (bytes : List ℕ) : Type 0 where
  pub len : after.len ≡ before.len + length bytes
  pub room : length after.out.now ≡ length before.out.now
  pub lies : (was l : List ℕ) → Lies was l before.out.now before.len → Lies was (l ++ bytes) after.out.now after.len
  pub lender : after.out.ghost_name ≡ before.out.ghost_name

-- a head is that of a line of the side, with the address and the mark
pub record Heads (h : Head) (side : Side) (address : Address) (mark : ℕ) : Type 0 where
  pub side_is : side_of h.side ≡ side
  pub address_is : placed h.address ≡ address
  pub mark_is : h.mark ≡ mark

-- how a line begins
abbrev pub line_head : Head → List ℕ
line_head h = head_text (address_text (placed h.address)) h.mark

-- ---- lengths
-- a length, unless it is past the longest line
abbrev pub Measured : ℕ → Result ℕ Fault → Type 0
Measured len (Ok n) = (n ≡ len) × (n ≤ 1024)
Measured len (Err f) = (f ≡ TooLong) × (1024 < len)

-- ---- refusals
abbrev pub refusal : {X : Type 0} → Result X Fault → Option Fault
refusal (Ok x) = None
refusal (Err f) = Some f

-- a whole line of n bytes is too long, or too long for the buffer
abbrev pub line_fault : ℕ → ℕ → Option Fault
line_fault n room = cond (nat_le n 1024) (cond (nat_le n room) None (Some ShortBuffer)) (Some TooLong)

-- whether a whole line of n bytes is short enough, and goes into the buffer, and why not
pub record Fitted (n room : ℕ) (result : Result (Unit {0}) Fault) : Type 0 where
  pub fault : refusal result ≡ line_fault n room

-- a line of n bytes, to which the check is still to come
abbrev pub room_fault : ℕ → ℕ → Option Fault
room_fault n room = line_fault (n + 3) room

-- whether there is a first field that has its form
abbrev pub first_given : Side → Option (Bor (List ℕ)) → Bool
first_given side None = false
first_given side (Some f) = is_first_field side f.now

-- why no line has the mark behind the address
abbrev pub mark_fault : Side → Address → ℕ → Option Fault
mark_fault side address mark = cond (is_mark side mark) None (Some (BadMark (length (address_text address) + 1)))

-- why no line has the first field, of which is told whether it has its form, behind the address and a mark
abbrev pub first_fault : Address → Bool → Option Fault
first_fault address first = cond first None (Some (FirstField (length (address_text address) + 3)))

-- why no line begins with the address, the mark and a first field, of which is told whether it has its form
abbrev pub head_fault : Side → Address → ℕ → Bool → Option Fault
head_fault side address mark first =
    cond (is_mark side mark)
    (cond first None (Some (FirstField (length (address_text address) + 3))))
    (Some (BadMark (length (address_text address) + 1)))

abbrev pub begin_fault : Side → List ℕ → ℕ → List ℕ → ℕ → Option Fault
begin_fault side address mark first room =
    cond (is_some (address_of side address))
    (cond (is_mark side mark)
    (cond (is_first_field side first)
    (room_fault (length (head_text address mark ++ ended first)) room)
    (Some (FirstField (length address + 3))))
    (Some (BadMark (length address + 1))))
    (Some BadAddress)

-- n bytes are written: none if no line is open
abbrev pub add_fault : ℕ → List ℕ → ℕ → Option Fault
add_fault n field room = cond (n == 0) (Some ShortBuffer) (room_fault (n + length (ended field)) room)

-- several fields at once
abbrev pub all_fault : ℕ → List (List ℕ) → ℕ → Option Fault
all_fault n fields room = cond (n == 0) (Some ShortBuffer) (room_fault (n + length (body_text fields)) room)

-- what a list of references holds
abbrev pub behind_all : List (Bor (List ℕ)) → List (List ℕ)
behind_all refs = map (λ (r : Bor (List ℕ)). r.now) refs

-- ---- calls
-- what a call on a writer answers, and what it leaves: it is done, and whether a status stands alone is told; or all is as it was
pub record Called (before after : Writer) (result : Result (Unit {0}) Fault) (fault : Option Fault) (alone : Bool) (Done : Type 0) : Type 0 where
  pub answer : refusal result ≡ fault
  pub state : MatchResult result (λ _. Done) (λ _. after ≡ before)
  pub bare : OnOk result (after.bare ≡ alone)
  pub lender : after.out.ghost_name ≡ before.out.ghost_name
