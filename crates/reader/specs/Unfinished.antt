-- What the values of the code mean, and what taking bytes from a port until a line ends makes of them.
use Rattle.std.specs.Prelude.{◌≡◌, ℕ, ◌≤◌, Bool, true, false, List, [], take}
use Rattle.port.specs.Port.{Meaning}
use Rattle.reader.specs.Stream.{Cut, dry_at, cut_off, first_cut}
use Rattle.reader.specs.Cutting.{Part, bare, by_parts}
use Rattle.reader.specs.declared.unfinished.Unfinished.{Unfinished}

-- Shut, since whoever uses an unfinished line needs only what its calls say of this.
unfoldable pub part_of : Unfinished → Part
part_of u = record { kept = take u.len u.bytes; over = u.over }

-- after a byte that ended the line p, or did not
abbrev pub went_on : Bool → Part → List ℕ → Cut Part Part
went_on true p rest = cut_off p bare rest
went_on false p rest = first_cut by_parts p rest

-- where the taking of bytes stopped: at the end of the line p with the rest not taken, or with none left
abbrev pub stopped : Bool → Part → List ℕ → Cut Part Part
stopped true p rest = cut_off p bare rest
stopped false p rest = dry_at p

-- of the port nothing but In is changed; rooms are never lower
pub record ReadsOnly (before after : Meaning) : Type 0 where
  pub outgoing : after.outgoing ≡ before.outgoing
  pub room_in : before.room_in ≤ after.room_in
  pub room_out : before.room_out ≤ after.room_out
  pub heeds : after.heeds ≡ before.heeds
  pub clear : after.clear ≡ before.clear

-- the unfinished line was p and is q; `ended` says whether q is a whole line
pub record Comes (before after : Meaning) (p q : Part) (ended : Bool) : Type 0 where
  pub cut : first_cut by_parts p before.incoming ≡ stopped ended q after.incoming
  pub dry : ended ≡ false → after.incoming ≡ []
  pub rest : ReadsOnly before after
