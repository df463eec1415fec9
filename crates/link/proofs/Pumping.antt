-- What pump does with a line that has ended, from what its parts do.
use Rattle.std.proofs.Common.{◌≡◌, ℕ, ◌≤◌, true, List, length, take, drop, Ok, sym, ap, ◌∙◌}
use Rattle.std.proofs.lemmas.List.{take_at}
use Rattle.reader.specs.Cutting.{Part}
use Rattle.reader.specs.Unfinished.{Comes}
use Rattle.life.specs.Link.{State, Hands}
use Rattle.numbers.specs.Ours.{ours}
use Rattle.link.specs.Meanings.{kind_of, read_told, Stands, Pumps}
use Rattle.link.specs.Steps.{Handed, HandedOut}
use Rattle.link.specs.declared.pumped.Kind.{Kind}
use Rattle.link.specs.declared.pumped.Pumped.{Pumped}
use Rattle.link.specs.declared.pumped.Pumped.TheVariants.{Dry, Line}

module _ (s t : State) (p : Part) (old new : List ℕ) (c : Comes s.port t.port s.unfinished p true) (link : t.link ≡ s.link) (recent : t.recent ≡ s.recent) (large : 1024 ≤ length old) where
  line : (k : Kind) (n : ℕ) → Handed p t.unfinished s.slots t.slots old new k n → Pumps s old (Ok (Line k n)) t new
  line k n h = (hands, stands)
    where
      front : take n new ≡ p.kept
      front = ap (take n) h.buffer ∙ take_at p.kept (drop n old) n (sym h.count)

      hands : Hands ours s (kind_of k) (take n new) (read_told k (take n new)) t
      hands = record {
        held = p;
        cut = c.cut ∙ rw h.bared;
        stands = front;
        read = rw front h.told.read;
        told = rw (front, h.told.read) h.told.told;
        port = c.rest;
        link = link;
        recent = recent;
      }

      stands : Stands old new (take n new) n
      stands = record { large = large; count = rw front h.count; buffer = rw front h.buffer }

  pub hands_out : (r : Pumped) → HandedOut p t.unfinished s.slots t.slots old new r → Pumps s old (Ok r) t new
  hands_out Dry h = absurd h
  hands_out (Line k n) h = line k n h
