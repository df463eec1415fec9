-- Runs of calls on a port, and the law that no byte is lost, made up, doubled or moved out of turn in one.
use Rattle.std.specs.Prelude.{◌≡◌, ℕ, Bool, List, [], ◌∷◌, ◌++◌, take}
use Rattle.port.specs.Port.{Meaning, Arrived, Departed, Fetched, Written, Cleared}

-- A call as its caller sees it: the bytes offered or the buffer as it is afterwards, and how many of those were moved.
pub data Call : Type 0 where
  Arrive : List ℕ → ℕ → Call
  Depart : List ℕ → ℕ → Call
  Read : List ℕ → ℕ → Call
  Write : List ℕ → ℕ → Call
  Room : Call
  Clear : Bool → Call

-- The calls made so far, the latest first.
abbrev pub History : Type 0
History = List Call

-- From the port's meaning at the start, these calls, none of them a hangup, lead to this meaning.
-- Each step is what the port promises of that call.
pub data Ran (start : Meaning) : History → Meaning → Type 0 where
  begun : Ran start [] start
  arrive : {h : History} {m z : Meaning} {bytes : List ℕ} {k : ℕ} → Ran start h m → Arrived m z bytes k → Ran start (Arrive bytes k ∷ h) z
  depart : {h : History} {m z : Meaning} {old new : List ℕ} {k : ℕ} → Ran start h m → Departed m z old new k → Ran start (Depart new k ∷ h) z
  read : {h : History} {m z : Meaning} {old new : List ℕ} {k waiting : ℕ} → Ran start h m → Fetched m z old new k waiting → Ran start (Read new k ∷ h) z
  write : {h : History} {m z : Meaning} {bytes : List ℕ} {k : ℕ} → Ran start h m → Written m z bytes k → Ran start (Write bytes k ∷ h) z
  room : {h : History} {m : Meaning} → Ran start h m → Ran start (Room ∷ h) m
  clear : {h : History} {m z : Meaning} {value : Bool} → Ran start h m → Cleared m z value → Ran start (Clear value ∷ h) z

-- The bytes moved in each of the four ways, in their order.
pub record Traffic : Type 0 where
  pub arrived : List ℕ
  pub departed : List ℕ
  pub fetched : List ℕ
  pub written : List ℕ

-- What one call moved: the first bytes of what was offered, or of the buffer that was filled.
abbrev pub moved : Call → Traffic
moved (Arrive bytes k) = record { arrived = take k bytes; departed = []; fetched = []; written = [] }
moved (Depart buffer k) = record { arrived = []; departed = take k buffer; fetched = []; written = [] }
moved (Read buffer k) = record { arrived = []; departed = []; fetched = take k buffer; written = [] }
moved (Write bytes k) = record { arrived = []; departed = []; fetched = []; written = take k bytes }
moved Room = record { arrived = []; departed = []; fetched = []; written = [] }
moved (Clear value) = record { arrived = []; departed = []; fetched = []; written = [] }

-- What all the calls moved.
abbrev pub traffic : History → Traffic
traffic [] = record { arrived = []; departed = []; fetched = []; written = [] }
traffic (c ∷ h) = record {
  arrived = (traffic h).arrived ++ (moved c).arrived;
  departed = (traffic h).departed ++ (moved c).departed;
  fetched = (traffic h).fetched ++ (moved c).fetched;
  written = (traffic h).written ++ (moved c).written;
}

-- The bytes that went out of each side, followed by those that are there, are those that were there at the start, followed by those that came in.
pub record Kept (start end : Meaning) (t : Traffic) : Type 0 where
  pub incoming : t.fetched ++ end.incoming ≡ start.incoming ++ t.arrived
  pub outgoing : t.departed ++ end.outgoing ≡ start.outgoing ++ t.written

-- From this meaning on, over any run of calls, both sides keep their bytes, in order.
pub record Keeps (start : Meaning) : Type 0 where
  pub run : (end : Meaning) (h : History) → Ran start h end → Kept start end (traffic h)

-- So it is with every port.
abbrev pub KeptInOrder : Type 0
KeptInOrder = (start : Meaning) → Keeps start
