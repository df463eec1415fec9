-- The bytes of a port over a run of calls: one step for each call, and the induction over the run.
use Rattle.std.proofs.Common.{◌≡◌, ℕ, ◌≤◌, min, Bool, true, false, cond, not, ◌&&◌, List, [], ◌∷◌, ◌++◌, length, take, drop, sym, refl, ap, ◌∙◌, arith, rules}
use Rattle.std.proofs.lemmas.List.{same_lists, places, append_assoc, append-nil}
use Rattle.port.specs.Port.{Meaning, Arrived, Departed, Fetched, Written, Cleared}
use Rattle.port.specs.Runs.{Call, Arrive, Depart, Read, Write, Room, Clear, History, Ran, begun, arrive, depart, read, write, room, clear, moved, traffic, Kept, Keeps}

-- One more step of one side: `gone` left it and `come` joined it.
side_step : (start was now out into gone come : List ℕ) → out ++ was ≡ start ++ into → gone ++ now ≡ was ++ come → (out ++ gone) ++ now ≡ start ++ (into ++ come)
side_step start was now out into gone come e f =
    append_assoc out gone now ∙ ap (λ t. out ++ t) f ∙ sym (append_assoc out was come) ∙ ap (λ t. t ++ come) e ∙ append_assoc start into come

-- A side that a call left alone.
side_still : (was now : List ℕ) → now ≡ was → [] ++ now ≡ was ++ []
side_still was now e = e ∙ sym (append-nil was)

-- A side whose first k went to the front of a buffer.
side_out : (was now old new : List ℕ) (k : ℕ) → k ≤ length was → new ≡ take k was ++ drop k old → now ≡ drop k was → take k new ++ now ≡ was ++ []
side_out was now old new k h e f = rw (e, f) (same_lists _ _ (search (rules, places)) (λ i d l. grind (arith, places)))

-- No more departs than is there, whether or not the port waits.
departing_fits : (waits : Bool) (n l : ℕ) → cond waits 0 (min n l) ≤ l
departing_fits true n l = omega arith
departing_fits false n l = omega arith

kept_arrive : (m z : Meaning) (bytes : List ℕ) (k : ℕ) → Arrived m z bytes k → Kept m z (moved (Arrive bytes k))
kept_arrive m z bytes k a = record { incoming = a.incoming; outgoing = side_still _ _ a.outgoing }

kept_depart : (m z : Meaning) (old new : List ℕ) (k : ℕ) → Departed m z old new k → Kept m z (moved (Depart new k))
kept_depart m z old new k d =
    let fits : k ≤ length m.outgoing = rw d.count (departing_fits (m.heeds && not m.clear) (length old) (length m.outgoing)) in
    record { incoming = side_still _ _ d.incoming; outgoing = side_out _ _ old new k fits d.buffer d.outgoing }

kept_read : (m z : Meaning) (old new : List ℕ) (k waiting : ℕ) → Fetched m z old new k waiting → Kept m z (moved (Read new k))
kept_read m z old new k waiting f =
    let fits : k ≤ length m.incoming = omega arith in
    record { incoming = side_out _ _ old new k fits f.buffer f.incoming; outgoing = side_still _ _ f.outgoing }

kept_write : (m z : Meaning) (bytes : List ℕ) (k : ℕ) → Written m z bytes k → Kept m z (moved (Write bytes k))
kept_write m z bytes k w = record { incoming = side_still _ _ w.incoming; outgoing = w.outgoing }

kept_clear : (m z : Meaning) (value : Bool) → Cleared m z value → Kept m z (moved (Clear value))
kept_clear m z value c = record { incoming = side_still _ _ c.incoming; outgoing = side_still _ _ c.outgoing }

kept_room : (m : Meaning) → Kept m m (moved Room)
kept_room m = record { incoming = side_still _ _ refl; outgoing = side_still _ _ refl }

-- One more call after a run.
kept_then : (start m z : Meaning) (h : History) (c : Call) → Kept start m (traffic h) → Kept m z (moved c) → Kept start z (traffic (c ∷ h))
kept_then start m z h c r s = record {
  incoming = side_step start.incoming m.incoming z.incoming (traffic h).fetched (traffic h).arrived (moved c).fetched (moved c).arrived r.incoming s.incoming;
  outgoing = side_step start.outgoing m.outgoing z.outgoing (traffic h).departed (traffic h).written (moved c).departed (moved c).written r.outgoing s.outgoing;
}

kept_over : (start end : Meaning) (calls : History) → Ran start calls end → Kept start end (traffic calls)
kept_over start end calls begun = record { incoming = sym (append-nil _); outgoing = sym (append-nil _) }
kept_over start end calls (arrive {h} {m} {z} {bytes} {k} r s) = kept_then start m z h (Arrive bytes k) (kept_over start m h r) (kept_arrive m z bytes k s)
kept_over start end calls (depart {h} {m} {z} {old} {new} {k} r s) = kept_then start m z h (Depart new k) (kept_over start m h r) (kept_depart m z old new k s)
kept_over start end calls (read {h} {m} {z} {old} {new} {k} {waiting} r s) = kept_then start m z h (Read new k) (kept_over start m h r) (kept_read m z old new k waiting s)
kept_over start end calls (write {h} {m} {z} {bytes} {k} r s) = kept_then start m z h (Write bytes k) (kept_over start m h r) (kept_write m z bytes k s)
kept_over start end calls (room {h} {m} r) = kept_then start m m h Room (kept_over start m h r) (kept_room m)
kept_over start end calls (clear {h} {m} {z} {value} r s) = kept_then start m z h (Clear value) (kept_over start m h r) (kept_clear m z value s)

pub keeps : (start : Meaning) → Keeps start
keeps start = record { run = λ end h r. kept_over start end h r }
