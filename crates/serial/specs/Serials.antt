-- What a serial port means as a port.
use Rattle.std.specs.Prelude.{◌-◌, true, false, [], length}
use Rattle.port.specs.Port.{Meaning}
use Rattle.serial.specs.Queues.{held}
use Rattle.serial.specs.Sizes.{capacity}
use Rattle.serial.specs.declared.serial.Serial.{Serial}

-- The rooms are computed from the queues here, so that after every call each room is exactly what the queue does not hold.
abbrev pub serial : Serial → Meaning
serial s = record {
  incoming = held s.input;
  outgoing = held s.output;
  room_in = capacity - length (held s.input);
  room_out = capacity - length (held s.output);
  heeds = false;
  clear = s.clear;
}

-- A new serial port.
abbrev pub idle : Meaning
idle = record {
  incoming = [];
  outgoing = [];
  room_in = capacity;
  room_out = capacity;
  heeds = false;
  clear = true;
}
