-- What a byte port holds, and what each of its calls makes of that.
-- In each relation `before` and `after` are what the port means as the call begins and as it returns.
-- Where bytes leave the port, its rooms may rise, and do not fall; everything else is said exactly.
use Rattle.std.specs.Prelude.{◌≡◌, ℕ, ◌-◌, ◌≤◌, min, Bool, true, cond, not, ◌&&◌, List, [], ◌++◌, length, take, drop}

pub record Meaning : Type 0 where
  -- In: the bytes that arrived and are not read yet, the oldest first
  pub incoming : List ℕ
  -- Out: the bytes that were written and did not depart yet, the oldest first
  pub outgoing : List ℕ
  -- RoomIn: how many bytes more may arrive
  pub room_in : ℕ
  -- RoomOut: how many bytes more may be written
  pub room_out : ℕ
  -- Heeds: whether departing waits for Clear; fixed as the port is made
  pub heeds : Bool
  -- Clear: clear to send
  pub clear : Bool

-- `arrive` was offered the bytes, and took the first k of them.
pub record Arrived (before after : Meaning) (bytes : List ℕ) (k : ℕ) : Type 0 where
  pub count : k ≡ min (length bytes) before.room_in
  pub incoming : after.incoming ≡ before.incoming ++ take k bytes
  pub outgoing : after.outgoing ≡ before.outgoing
  pub room_in : after.room_in ≡ before.room_in - k
  pub room_out : after.room_out ≡ before.room_out
  pub heeds : after.heeds ≡ before.heeds
  pub clear : after.clear ≡ before.clear

-- How many bytes depart to a buffer of n places: none while a port that heeds Clear is not clear.
abbrev pub departing : Meaning → ℕ → ℕ
departing m n = cond (m.heeds && not m.clear) 0 (min n (length m.outgoing))

-- `depart` moved k bytes to the front of a buffer, which was `old` and is `new`.
pub record Departed (before after : Meaning) (old new : List ℕ) (k : ℕ) : Type 0 where
  pub count : k ≡ departing before (length old)
  pub buffer : new ≡ take k before.outgoing ++ drop k old
  pub incoming : after.incoming ≡ before.incoming
  pub outgoing : after.outgoing ≡ drop k before.outgoing
  pub room_in : before.room_in ≤ after.room_in
  pub room_out : before.room_out ≤ after.room_out
  pub heeds : after.heeds ≡ before.heeds
  pub clear : after.clear ≡ before.clear

-- `read` moved k bytes to the front of a buffer, which was `old` and is `new`, and left `waiting` of them.
pub record Fetched (before after : Meaning) (old new : List ℕ) (k waiting : ℕ) : Type 0 where
  pub count : k ≡ min (length old) (length before.incoming)
  pub waits : waiting ≡ length after.incoming
  pub buffer : new ≡ take k before.incoming ++ drop k old
  pub incoming : after.incoming ≡ drop k before.incoming
  pub outgoing : after.outgoing ≡ before.outgoing
  pub room_in : before.room_in ≤ after.room_in
  pub room_out : before.room_out ≤ after.room_out
  pub heeds : after.heeds ≡ before.heeds
  pub clear : after.clear ≡ before.clear

-- `write` was offered the bytes, and took the first k of them.
pub record Written (before after : Meaning) (bytes : List ℕ) (k : ℕ) : Type 0 where
  pub count : k ≡ min (length bytes) before.room_out
  pub incoming : after.incoming ≡ before.incoming
  pub outgoing : after.outgoing ≡ before.outgoing ++ take k bytes
  pub room_in : after.room_in ≡ before.room_in
  pub room_out : after.room_out ≡ before.room_out - k
  pub heeds : after.heeds ≡ before.heeds
  pub clear : after.clear ≡ before.clear

-- `clear` set Clear to the value.
pub record Cleared (before after : Meaning) (value : Bool) : Type 0 where
  pub incoming : after.incoming ≡ before.incoming
  pub outgoing : after.outgoing ≡ before.outgoing
  pub room_in : after.room_in ≡ before.room_in
  pub room_out : after.room_out ≡ before.room_out
  pub heeds : after.heeds ≡ before.heeds
  pub clear : after.clear ≡ value

-- `hangup` let go what had not been read and what had not departed.
pub record HungUp (before after : Meaning) : Type 0 where
  pub incoming : after.incoming ≡ []
  pub outgoing : after.outgoing ≡ []
  pub room_in : before.room_in ≤ after.room_in
  pub room_out : before.room_out ≤ after.room_out
  pub heeds : after.heeds ≡ before.heeds
  pub clear : after.clear ≡ before.clear

-- The same, but that it heeds Clear.
abbrev pub heeding : Meaning → Meaning
heeding m = record {
  incoming = m.incoming;
  outgoing = m.outgoing;
  room_in = m.room_in;
  room_out = m.room_out;
  heeds = true;
  clear = m.clear;
}
