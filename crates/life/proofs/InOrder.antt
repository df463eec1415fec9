-- The first promise. The bytes arrived since the last reset are those that pump has taken and those that still wait; what it has
-- handed out is the reading of the first.
use Rattle.std.proofs.Common.{◌≡◌, ℕ, List, [], ◌∷◌, ◌++◌, map, take, sym, refl, ap, ◌∙◌, ap₂, append_assoc, append-nil}
use Rattle.std.proofs.lemmas.List.{map-append}
use Rattle.reader.specs.Stream.{run, after}
use Rattle.line.specs.Lines.{Read}
use Rattle.reader.specs.Cutting.{lines_from, left_from, lines_read, Part, bare, by_parts}
use Rattle.life.specs.Codec.{Codec, Lawful, as_shown}
use Rattle.port.specs.Port.{Meaning}
use Rattle.life.specs.Calls.{Kind, History, Begins, since, shown, bytes_in}
use Rattle.life.specs.Promises.{Fits, of_fault, of_event, of_notice, of_stray, of_misplaced, of_more, of_last, of_late, of_late_last, KindsFit, InOrder, AllAtDry}
use Rattle.life.specs.Link.{Slot, State, Told, told_fault, told_event, told_notice, told_unknown, told_elsewhere, told_misplaced, told_more, told_last, told_late, told_late_last, Leads, making, call, emission, did_refuse, did_clear, did_submit, did_dry, did_hand, did_settle, did_reset, did_arrive, did_depart}
use Rattle.reader.proofs.Cutting.{left_append, lines_append, lines_end, left_end, squeeze, after_squeezed, none_squeezed, first_dry}
use Rattle.life.proofs.Taking.{add_is, begins_read, Takes, takes}

-- The invariant, since the last reset: `told` was handed out, pump has taken the bytes `consumed`, and `incoming` wait. `held` is the
-- unfinished line as the link holds it.
pub record ReadSoFar (K : Codec) (arrived_bytes : List ℕ) (told : List (List ℕ × Read)) (incoming : List ℕ) (held : Part) : Type 0 where
  pub consumed : List ℕ
  pub all : consumed ++ incoming ≡ arrived_bytes
  pub left : squeeze 1024 (left_from [] consumed) ≡ held
  pub so_far : told ≡ lines_read (as_shown K) consumed

abbrev pub Order : Codec → Meaning → History → State → Type 0
Order K first h s = ReadSoFar K (since bytes_in first.incoming h) (since shown [] h) s.port.incoming s.unfinished

module _ (K : Codec) (L : Lawful K) where
  kept : {a : List ℕ} {r : List (List ℕ × Read)} {i j : List ℕ} {u v : Part} → j ≡ i → v ≡ u → ReadSoFar K a r i u → ReadSoFar K a r j v
  kept e f o = rw (e, f) o

  grown : (a i bs : List ℕ) {r : List (List ℕ × Read)} {u : Part} → ReadSoFar K a r i u → ReadSoFar K (a ++ bs) r (i ++ bs) u
  grown a i bs o = record {
    consumed = o.consumed;
    all = sym (append_assoc o.consumed i bs) ∙ ap (λ (x : List ℕ). x ++ bs) o.all;
    left = o.left;
    so_far = o.so_far;
  }

  dried : (a i : List ℕ) (p : Part) (r : List (List ℕ × Read)) → run by_parts p i ≡ [] → ReadSoFar K a r i p → (r ≡ lines_read (as_shown K) a) × ReadSoFar K a r [] (after by_parts p i)
  dried a i p r none o = (all_told, record { consumed = a; all = append-nil a; left = on; so_far = all_told })
    where
      u : List ℕ
      u = left_from [] o.consumed

      cut : lines_from [] a ≡ lines_from [] o.consumed
      cut = rw (← o.all) (lines_append [] o.consumed i ∙ rw (none_squeezed u i (rw (← o.left) at none)) (append-nil (lines_from [] o.consumed)))

      all_told : r ≡ lines_read (as_shown K) a
      all_told = o.so_far ∙ ap (map (as_shown K)) (sym cut)

      on : squeeze 1024 (left_from [] a) ≡ after by_parts p i
      on = ap (λ (x : List ℕ). squeeze 1024 (left_from [] x)) (sym o.all) ∙ ap (squeeze 1024) (left_append [] o.consumed i) ∙ sym (after_squeezed u i) ∙ ap (λ (z : Part). after by_parts z i) o.left

  handed_on : (a i l j : List ℕ) (p : Part) (x : Read) (r : List (List ℕ × Read)) (o : ReadSoFar K a r i p) → Takes K (left_from [] o.consumed) i l x j → ReadSoFar K a (r ++ ((l, x) ∷ [])) j bare
  handed_on a i l j p x r o w = record {
    consumed = taken;
    all = append_assoc o.consumed (w.front ++ (w.stop ∷ [])) j ∙ ap (λ (z : List ℕ). o.consumed ++ z) (append_assoc w.front (w.stop ∷ []) j ∙ sym w.took) ∙ o.all;
    left = ap (squeeze 1024) (left_append [] o.consumed (w.front ++ (w.stop ∷ [])) ∙ left_append u w.front (w.stop ∷ []) ∙ left_end line w.stop w.ends);
    so_far = sym (ap (map (as_shown K)) cut ∙ map-append (as_shown K) (lines_from [] o.consumed) (line ∷ []) ∙ ap₂ (λ (y : List (List ℕ × Read)) (z : List ℕ × Read). y ++ (z ∷ [])) (sym o.so_far) (sym (ap₂ (λ (y : List ℕ) (z : Read). (y, z)) w.stands w.read)));
  }
    where
      u : List ℕ
      u = left_from [] o.consumed

      line : List ℕ
      line = left_from u w.front

      taken : List ℕ
      taken = o.consumed ++ (w.front ++ (w.stop ∷ []))

      cut : lines_from [] taken ≡ lines_from [] o.consumed ++ (line ∷ [])
      cut = lines_append [] o.consumed (w.front ++ (w.stop ∷ [])) ∙ ap (λ (z : List (List ℕ)). lines_from [] o.consumed ++ z) (lines_append u w.front (w.stop ∷ []) ∙ rw w.none_before (lines_end line w.stop w.ends w.not_empty))

  pub order : (first : State) {h : History} {s : State} → Leads K first h s → Order K first.port h s
  order first (making n) = record { consumed = []; all = refl; left = sym n.unfinished; so_far = refl }
  order first (emission l w) = let o = order first w in record { consumed = o.consumed; all = o.all; left = o.left; so_far = o.so_far }
  order first (call c t w (did_refuse e)) = rw e (order first w)
  order first (call c t w (did_clear v r)) = kept r.port.incoming r.rest.unfinished (order first w)
  order first (call c t w (did_submit n m r)) = kept r.port.incoming r.unfinished (order first w)
  order first (call {h} {s} c t w (did_dry r)) = let f = first_dry by_parts s.unfinished t.unfinished s.port.incoming r.cut in kept r.incoming (sym f.1) (dried _ s.port.incoming s.unfinished _ f.0 (order first w)).1
  order first (call {h} {s} c t w (did_hand k l x r)) = let o = order first w in let y = takes K L s t k l x r (left_from [] o.consumed) o.left in rw y.1 (handed_on _ s.port.incoming l t.port.incoming s.unfinished x _ o y.0)
  order first (call c t w (did_settle u n o ok r)) = kept (ap (λ (p : Meaning). p.incoming) r.port) r.unfinished (order first w)
  order first (call c t w (did_reset n r)) = rw (r.port.incoming, r.unfinished) (record { consumed = []; all = refl; left = refl; so_far = refl })
  order first (call {h} {s} c t w (did_arrive bytes k r)) = rw (add_is (since bytes_in first.port.incoming h) (take k bytes), r.port.incoming, r.rest.unfinished) (grown _ s.port.incoming (take k bytes) (order first w))
  order first (call c t w (did_depart old new k r)) = kept r.port.incoming r.rest.unfinished (order first w)

  beginning : (a : List ℕ) (r : List (List ℕ × Read)) (i : List ℕ) (u : Part) → ReadSoFar K a r i u → Begins r (lines_read (as_shown K) a)
  beginning a r i u o = rw (o.so_far, ← o.all) (begins_read (as_shown K) o.consumed i)

  at_dry : (first : State) {h : History} {s : State} → Leads K first h s → AllAtDry K first.port h
  at_dry first (making n) = tt
  at_dry first (emission l w) = tt
  at_dry first (call c t w (did_refuse e)) = tt
  at_dry first (call c t w (did_clear v r)) = tt
  at_dry first (call c t w (did_submit n m r)) = tt
  at_dry first (call {h} {s} c t w (did_dry r)) = (dried _ s.port.incoming s.unfinished _ (first_dry by_parts s.unfinished t.unfinished s.port.incoming r.cut).0 (order first w)).0
  at_dry first (call c t w (did_hand k l x r)) = tt
  at_dry first (call c t w (did_settle u n o ok r)) = tt
  at_dry first (call c t w (did_reset n r)) = tt
  at_dry first (call c t w (did_arrive bytes k r)) = tt
  at_dry first (call c t w (did_depart old new k r)) = tt

  -- ---- what was told fits what was read
  fits : {b a : ℕ → Slot} {r : Read} {k : Kind} → Told K b a r k → Fits k r
  fits (told_fault n p s) = of_fault n p
  fits (told_event m e s) = of_event m e
  fits (told_notice m e s) = of_notice m e
  fits (told_unknown m n e lt i s) = of_stray m n lt e
  fits (told_elsewhere m n p e lt w ne s) = of_stray m n lt e
  fits (told_misplaced m n p e lt w ad nx s) = of_misplaced m n lt e
  fits (told_more m n p q e lt is ad nx put) = of_more m n lt e
  fits (told_last m n p e lt is ad nx put) = of_last m n lt e
  fits (told_late m n p q e lt is ad nx put) = of_late m n lt e
  fits (told_late_last m n p e lt is ad nx put) = of_late_last m n lt e

  kinds_fit : (first : State) {h : History} {s : State} → Leads K first h s → KindsFit h
  kinds_fit first (making n) = tt
  kinds_fit first (emission l w) = kinds_fit first w
  kinds_fit first (call c t w (did_refuse e)) = kinds_fit first w
  kinds_fit first (call c t w (did_clear v r)) = kinds_fit first w
  kinds_fit first (call c t w (did_submit n m r)) = kinds_fit first w
  kinds_fit first (call c t w (did_dry r)) = kinds_fit first w
  kinds_fit first (call c t w (did_hand k l x r)) = (fits r.told, kinds_fit first w)
  kinds_fit first (call c t w (did_settle u n o ok r)) = kinds_fit first w
  kinds_fit first (call c t w (did_reset n r)) = kinds_fit first w
  kinds_fit first (call c t w (did_arrive bytes k r)) = kinds_fit first w
  kinds_fit first (call c t w (did_depart old new k r)) = kinds_fit first w

  pub in_order : (first s : State) (h : History) → Leads K first h s → InOrder K first.port h
  in_order first s h w = record { beginning = beginning _ _ s.port.incoming s.unfinished (order first w); at_dry = at_dry first w; kinds = kinds_fit first w }
