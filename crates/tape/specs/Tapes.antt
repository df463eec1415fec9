-- What a tape means as a port.
use Rattle.std.specs.Prelude.{◌≡◌, ℕ, ◌-◌, true, false, List, [], vec_items, vec_len}
use Rattle.byte_slices.specs.Parts.{part}
use Rattle.port.specs.Port.{Meaning}
use Rattle.tape.specs.declared.tape.Tape.{Tape}

-- In is the recording from the place played to on; Out is what was written from the place sent to on.
-- The rooms are computed from the tape here, so that after every call RoomIn is exactly 0
-- and RoomOut exactly the places that were never written.
abbrev pub tape : Tape → Meaning
tape t = record {
  incoming = part (vec_items t.recording) t.played (vec_len t.recording);
  outgoing = part (vec_items t.out) t.sent (vec_len t.out);
  room_in = 0;
  room_out = t.places - vec_len t.out;
  heeds = false;
  clear = t.clear;
}

-- A call kept the room to write.
abbrev pub KeepsPlaces : Tape → Tape → Type 0
KeepsPlaces before after = (tape after).room_out ≡ (tape before).room_out

-- A new tape, with a recording to play and so many places to write.
abbrev pub blank : List ℕ → ℕ → Meaning
blank recording places = record {
  incoming = recording;
  outgoing = [];
  room_in = 0;
  room_out = places;
  heeds = false;
  clear = true;
}
