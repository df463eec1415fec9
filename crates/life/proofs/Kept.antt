-- The three promises together, and the law that a call's contract states.
use Rattle.std.proofs.Common.{◌∷◌}
use Rattle.life.specs.Codec.{Codec, Lawful}
use Rattle.life.specs.Calls.{Call, History}
use Rattle.life.specs.Link.{State, Does, Leads, call}
use Rattle.life.specs.Kept.{Promised, Kept}
use Rattle.life.proofs.InOrder.{in_order}
use Rattle.life.proofs.Counting.{counted}
use Rattle.life.proofs.Matching.{matched}

pub kept : Kept
kept K L first s h w = record { in_order = in_order K L first s h w; counted = counted K first s h w; matched = matched K L first s h w }

-- Where a history leads to the state before a call, the history with the call leads to the state after it and keeps the promises.
pub lives_on : (K : Codec) → Lawful K → (first : State) (h : History) (s t : State) (c : Call) → Leads K first h s → Does K h s t c
    → Leads K first (c ∷ h) t × Promised K first (c ∷ h) t
lives_on K L first h s t c w d = let v = call c t w d in (v, kept K L first t (c ∷ h) v)
