-- What one line means: a message, or a fault by its number and its place in the line.
use Rattle.std.specs.Prelude.{ℕ, ◌+◌, true, false, cond, List, [], ◌∷◌, map, length, take, Some, None, Option, ◌==◌, nat_le}
use Rattle.escape.specs.Tokens.{tokens, first_broken, further, parts, resolved}
use Rattle.line.specs.Forms.{Side, command, answer, Address, visible, two_digits, address_of, mark_of, check_of, is_first_field}

-- ---- what is read
-- the first field is the status of an answer or the name of a command; the later ones have their escapes resolved
pub record Message : Type 0 where
  pub side : Side
  pub address : Address
  pub mark : ℕ
  pub fields : List (List ℕ)

pub data Read : Type 0 where
  meant : Message → Read
  -- the number of the fault, and its place
  faulty : ℕ → ℕ → Read

-- ---- the parts of a line, as the slashes outside escapes cut it
pub record Parts : Type 0 where
  pub address : List ℕ
  pub mark : List ℕ
  pub body : List ℕ
  pub check : Option (List ℕ)

-- an answer has all four; a command may lack the check
abbrev pub unchecked : Side → List ℕ → List ℕ → List ℕ → Option Parts
unchecked command a m b = Some (record { address = a; mark = m; body = b; check = None })
unchecked answer a m b = None

abbrev pub parted : Side → List (List ℕ) → Option Parts
parted side [] = None
parted side (a ∷ []) = None
parted side (a ∷ m ∷ []) = None
parted side (a ∷ m ∷ b ∷ []) = unchecked side a m b
parted side (a ∷ m ∷ b ∷ c ∷ []) = Some (record { address = a; mark = m; body = b; check = Some c })
parted side (a ∷ m ∷ b ∷ c ∷ d ∷ more) = None

-- where they begin
abbrev pub mark_place : Parts → ℕ
mark_place p = length p.address + 1

abbrev pub body_place : Parts → ℕ
body_place p = mark_place p + length p.mark + 1

abbrev pub check_place : Parts → ℕ
check_place p = body_place p + length p.body + 1

-- ---- the fields of a body
abbrev pub one_more : List ℕ → Option (List (List ℕ)) → Option (List (List ℕ))
one_more f None = None
one_more f (Some fs) = Some (f ∷ fs)

-- nothing follows the last colon
abbrev pub nothing_left : List ℕ → Option (List (List ℕ))
nothing_left [] = Some []
nothing_left (b ∷ s) = None

-- of the parts that the colons cut, those that a colon ends, if it ends all
abbrev pub all_ended : List (List ℕ) → Option (List (List ℕ))
all_ended [] = None
all_ended (p ∷ []) = nothing_left p
all_ended (p ∷ q ∷ ps) = one_more p (all_ended (q ∷ ps))

-- the first field and the later ones, of which there may be none
abbrev pub first_and_later : Option (List (List ℕ)) → Option (List ℕ × List (List ℕ))
first_and_later None = None
first_and_later (Some []) = None
first_and_later (Some (f ∷ fs)) = Some (f, fs)

abbrev pub fields_of : List ℕ → Option (List ℕ × List (List ℕ))
fields_of body = first_and_later (all_ended (parts 58 body))

-- ---- reading, fault by fault in the order of their numbers
-- where the first byte stands that may not stand in a line
abbrev pub first_invisible : List ℕ → Option ℕ
first_invisible [] = None
first_invisible (b ∷ s) = elim (visible b) [ true ↦ further 1 (first_invisible s) | false ↦ Some 0 ]

abbrev pub unless_at : Option ℕ → ℕ → Read → Read
unless_at None number later = later
unless_at (Some place) number later = faulty number place

abbrev pub or_fault : {X : Type 0} → Option X → ℕ → ℕ → (X → Read) → Read
or_fault None number place later = faulty number place
or_fault (Some x) number place later = later x

abbrev pub unless_number : Option ℕ → ℕ → Read → Read
unless_number None place later = later
unless_number (Some number) place later = faulty number place

-- the check, where there is one, is two digits: the sum modulo 100 of the bytes up to and with the third slash
abbrev pub sum_fault : Option ℕ → ℕ → Option ℕ
sum_fault None right = Some 7
sum_fault (Some said) right = cond (said == right) None (Some 8)

abbrev pub check_fault : List ℕ → Option (List ℕ) → Option ℕ
check_fault summed None = None
check_fault summed (Some c) = sum_fault (two_digits c) (check_of summed)

abbrev pub body_read : Side → Address → ℕ → Parts → Read
body_read side a m p =
    or_fault (fields_of p.body) 9 (body_place p) (λ f.
    cond (is_first_field side f.0)
    (meant (record { side = side; address = a; mark = m; fields = f.0 ∷ map resolved f.1 }))
    (faulty 10 (body_place p)))

-- `summed` are the bytes up to and with the third slash
abbrev pub parts_read : Side → Parts → List ℕ → Read
parts_read side p summed =
    or_fault (address_of side p.address) 5 0 (λ a.
    or_fault (mark_of side p.mark) 6 (mark_place p) (λ m.
    unless_number (check_fault summed p.check) (check_place p) (body_read side a m p)))

abbrev pub reading : Side → List ℕ → Read
reading side line =
    cond (nat_le (length line) 1024)
    (unless_at (first_invisible line) 2
    (unless_at (first_broken (tokens line)) 3
    (or_fault (parted side (parts 47 line)) 4 (length line) (λ p. parts_read side p (take (check_place p) line)))))
    (faulty 1 1024)

-- ---- the check that stands in a line, by its value
abbrev pub check_value : Option (List ℕ) → Option ℕ
check_value None = None
check_value (Some c) = two_digits c
