-- The next line of an unfinished answer is told as such: its number is open or given up, with this address and at this place.
use Rattle.std.proofs.Common.{◌≡◌, ℕ, ◌+◌, ◌<◌, Bool, true, false, ◌⊎◌, List, [], ◌∷◌, ◌++◌, sym, refl, ◌∙◌, inl, inr, append_assoc, arith}
use Rattle.line.specs.Lines.{Message, meant}
use Rattle.life.specs.Codec.{Codec}
use Rattle.life.specs.Answers.{WholeAnswer, Place, start, Step, not_next, final, onward, next}
use Rattle.life.specs.Calls.{Kind, event, more, last, late, late_last}
use Rattle.life.specs.Promises.{ends_answer}
use Rattle.life.specs.Link.{Pending, Slot, Same, Waits, when_open, when_given_up, Idle, advanced, Told, told_event, told_notice, told_unknown, told_elsewhere, told_misplaced, told_more, told_last, told_late, told_late_last}
use Rattle.life.proofs.Answering.{Whole, Comes, comes, whole_some, never_both, whole_from}

-- The command of the kth ticket has the number x, which is open or given up with p. Of its answer the lines ls were handed out, and p has
-- the place after them.
pub record WaitingAt (K : Codec) (b : ℕ → Slot) (owner : ℕ → ℕ → Bool) (k : ℕ) (command : Message) (ls : List (List ℕ)) (x : ℕ) (p : Pending) : Type 0 where
  pub small : x < 10
  pub mark : command.mark ≡ 48 + x
  pub waits : Waits (b x) p
  pub address : p.address ≡ command.address
  pub browse : K.is_browse command ≡ p.browse
  pub place : (rest : List (List ℕ)) → Whole K p.browse start (ls ++ rest) → Whole K p.browse p.place rest
  pub owned : owner x k ≡ true

pub record Waiting (K : Codec) (b : ℕ → Slot) (owner : ℕ → ℕ → Bool) (k : ℕ) (command : Message) (ls : List (List ℕ)) : Type 0 where
  pub number : ℕ
  pub pending : Pending
  pub here : WaitingAt K b owner k command ls number pending

-- a command has its number as long as its answer is unfinished
abbrev pub WaitingOrWhole : (K : Codec) → (ℕ → Slot) → (ℕ → ℕ → Bool) → ℕ → Message → List (List ℕ) → Type 0
WaitingOrWhole K b owner k command ls = Waiting K b owner k command ls ⊎ WholeAnswer K command ls

-- the kinds that name the number n
pub data To : Kind → ℕ → Type 0 where
  to_more : (n : ℕ) → To (more n) n
  to_last : (n : ℕ) → To (last n) n
  to_late : (n : ℕ) → To (late n) n
  to_late_last : (n : ℕ) → To (late_last n) n

-- What is told of the line l, the next one of the answer: a kind that names the command's number, and that ends the answer just where
-- it is whole with l.
pub record HandedOn (K : Codec) (b a : ℕ → Slot) (owner : ℕ → ℕ → Bool) (k : ℕ) (command : Message) (ls : List (List ℕ)) (l : List ℕ) (kind : Kind) : Type 0 where
  pub number : ℕ
  pub to : To kind number
  pub owned : owner number k ≡ true
  pub others : (i : ℕ) → (i ≡ number → ⊥) → a i ≡ b i
  pub tells : ends_answer kind ≡ true → WholeAnswer K command (ls ++ (l ∷ []))
  pub told : WholeAnswer K command (ls ++ (l ∷ [])) → ends_answer kind ≡ true
  pub now : WaitingOrWhole K a owner k command (ls ++ (l ∷ []))

pub waits_one : {s : Slot} {p q : Pending} → Waits s p → Waits s q → p ≡ q
waits_one (when_open p) (when_open q) = refl
waits_one (when_given_up p) (when_given_up q) = refl

pub waits_idle : {s : Slot} {p : Pending} → Waits s p → Idle s → ⊥
waits_idle (when_open p) i = i
waits_idle (when_given_up p) i = i

apart : (x : Step) (q : Place) → x ≡ not_next → x ≡ onward q → ⊥
apart x q e f = let z : ◌≡◌ {A = ℕ} 0 1 = cc in omega arith

apart_final : (x : Step) → x ≡ not_next → x ≡ final → ⊥
apart_final x e f = let z : ◌≡◌ {A = ℕ} 0 1 = cc in omega arith

pub false_true : {X : Type 0} → false ≡ true → X
false_true e = let z : ◌≡◌ {A = ℕ} 0 1 = cc in absurd (omega arith)

module _ (K : Codec) where
  -- of a line with the mark ! nothing but event is told
  pub event_told : {b a : ℕ → Slot} {m : Message} {kind : Kind} → m.mark ≡ 33 → Told K b a (meant m) kind → (kind ≡ event) × Same b a
  event_told e (told_event m k s) = (refl, s)
  event_told e (told_notice m k s) = absurd (omega arith)
  event_told e (told_unknown m n k l i s) = absurd (omega arith)
  event_told e (told_elsewhere m n p k l i x s) = absurd (omega arith)
  event_told e (told_misplaced m n p k l i x y s) = absurd (omega arith)
  event_told e (told_more m n p q k l is x y put) = absurd (omega arith)
  event_told e (told_last m n p k l is x y put) = absurd (omega arith)
  event_told e (told_late m n p q k l is x y put) = absurd (omega arith)
  event_told e (told_late_last m n p k l is x y put) = absurd (omega arith)

  module _ (b a : ℕ → Slot) (owner : ℕ → ℕ → Bool) (k : ℕ) (command : Message) (ls : List (List ℕ)) where
    -- the number that the mark names is the command's own
    at_number : (x : ℕ) (p : Pending) (n : ℕ) (q : Pending) → WaitingAt K b owner k command ls x p → command.mark ≡ 48 + n → Waits (b n) q → WaitingAt K b owner k command ls n q
    at_number x p n q al e w = rw same_p at al_n
      where
        same_n : x ≡ n
        same_n = let f = al.mark in omega arith

        al_n : WaitingAt K b owner k command ls n p
        al_n = rw same_n at al

        same_p : p ≡ q
        same_p = waits_one al_n.waits w

    coming : (n : ℕ) (p : Pending) (l : List ℕ) (rest : List (List ℕ)) (m : Message) → WaitingAt K b owner k command ls n p → K.as_answer l ≡ meant m → WholeAnswer K command (ls ++ (l ∷ rest)) → Comes K p.browse p.place m rest
    coming n p l rest m al e w = comes K (al.place (l ∷ rest) (rw al.browse at (whole_from K w))) m e

    module _ (l : List ℕ) (m : Message) (rest : List (List ℕ)) (reads : K.as_answer l ≡ meant m) (whole : WholeAnswer K command (ls ++ (l ∷ rest))) where
      ended : (n : ℕ) (p : Pending) → WaitingAt K b owner k command ls n p → next K p.browse p.place m ≡ final → WholeAnswer K command (ls ++ (l ∷ []))
      ended n p al f = go (coming n p l rest m al reads whole)
        where
          go : Comes K p.browse p.place m rest → WholeAnswer K command (ls ++ (l ∷ []))
          go (inl c) = rw c.1 at whole
          go (inr c) = absurd (never_both K _ c.0 f c.1)

      not_ended : (n : ℕ) (p : Pending) (q : Place) → WaitingAt K b owner k command ls n p → next K p.browse p.place m ≡ onward q → WholeAnswer K command (ls ++ (l ∷ [])) → ⊥
      not_ended n p q al f w = go (coming n p l [] m al reads w)
        where
          go : Comes K p.browse p.place m [] → ⊥
          go (inl c) = never_both K _ q c.0 f
          go (inr c) = let z = whole_some K c.2 in omega arith

      gone_on : (n : ℕ) (p : Pending) (q : Place) → WaitingAt K b owner k command ls n p → next K p.browse p.place m ≡ onward q → Waits (a n) (advanced p q) → WaitingAt K a owner k command (ls ++ (l ∷ [])) n (advanced p q)
      gone_on n p q al f w = record {
        small = al.small;
        mark = al.mark;
        waits = w;
        address = al.address;
        browse = al.browse;
        place = λ more_lines v. go more_lines (comes K (al.place (l ∷ more_lines) (rw append_assoc at v)) m reads);
        owned = al.owned;
      }
        where
          go : (more_lines : List (List ℕ)) → Comes K p.browse p.place m more_lines → Whole K p.browse q more_lines
          go more_lines (inl c) = absurd (never_both K _ q c.0 f)
          go more_lines (inr c) = let g = c.1 in let s : c.0 ≡ q = cc in rw s at c.2

      -- the line is told as the next one
      pub hand_on : (kind : Kind) → Waiting K b owner k command ls → K.same_address m.address command.address ≡ true → m.mark ≡ command.mark → Told K b a (meant m) kind → HandedOn K b a owner k command ls l kind
      hand_on kind al ad mk (told_event m e s) = let f = al.here.mark in absurd (omega arith)
      hand_on kind al ad mk (told_notice m e s) = let f = al.here.mark in let g = al.here.small in absurd (omega arith)
      hand_on kind al ad mk (told_unknown m n e lt idle s) = let f = al.here.mark in let same : al.number ≡ n = omega arith in absurd (waits_idle (rw same at al.here.waits) idle)
      hand_on kind al ad mk (told_elsewhere m n p e lt w ne s) = let c = at_number al.number al.pending n p al.here (sym mk ∙ e) w in false_true (sym ne ∙ rw c.address ad)
      hand_on kind al ad mk (told_misplaced m n p e lt w same-ad nx s) = absurd (go (coming n p l rest m (at_number al.number al.pending n p al.here (sym mk ∙ e) w) reads whole))
        where
          go : Comes K p.browse p.place m rest → ⊥
          go (inl c) = apart_final _ nx c.0
          go (inr c) = apart _ c.0 nx c.1
      hand_on kind al ad mk (told_more m n p q e lt is same-ad nx put) =
          let c = at_number al.number al.pending n p al.here (sym mk ∙ e) (rw is (when_open p)) in
          record { number = n; to = to_more n; owned = c.owned; others = put.others; tells = λ z. false_true z; told = λ z. absurd (not_ended n p q c nx z); now = inl (record { number = n; pending = advanced p q; here = gone_on n p q c nx (rw put.here (when_open (advanced p q))) }) }
      hand_on kind al ad mk (told_last m n p e lt is same-ad nx put) =
          let c = at_number al.number al.pending n p al.here (sym mk ∙ e) (rw is (when_open p)) in
          record { number = n; to = to_last n; owned = c.owned; others = put.others; tells = λ z. ended n p c nx; told = λ z. refl; now = inr (ended n p c nx) }
      hand_on kind al ad mk (told_late m n p q e lt is same-ad nx put) =
          let c = at_number al.number al.pending n p al.here (sym mk ∙ e) (rw is (when_given_up p)) in
          record { number = n; to = to_late n; owned = c.owned; others = put.others; tells = λ z. false_true z; told = λ z. absurd (not_ended n p q c nx z); now = inl (record { number = n; pending = advanced p q; here = gone_on n p q c nx (rw put.here (when_given_up (advanced p q))) }) }
      hand_on kind al ad mk (told_late_last m n p e lt is same-ad nx put) =
          let c = at_number al.number al.pending n p al.here (sym mk ∙ e) (rw is (when_given_up p)) in
          record { number = n; to = to_late_last n; owned = c.owned; others = put.others; tells = λ z. ended n p c nx; told = λ z. refl; now = inr (ended n p c nx) }
