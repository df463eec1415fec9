-- The canonical line of a message: the one line, of all that mean it, that is written.
use Rattle.std.specs.Prelude.{ℕ, ◌+◌, ◌/◌, ◌%◌, Bool, true, false, cond, List, [], ◌∷◌, ◌++◌, length, Some, None, Option, ◌==◌, nat_le}
use Rattle.escape.specs.Spelling.{spelling}
use Rattle.line.specs.Forms.{Side, command, answer, Address, device_length, unaddressed, is_mark, is_first_field, check_of}
use Rattle.line.specs.Lines.{Message}

-- ---- the line
abbrev pub in_two_digits : ℕ → List ℕ
in_two_digits n = (48 + n / 10) ∷ (48 + n % 10) ∷ []

-- a point and the zone's two digits
abbrev pub zone_text : Option ℕ → List ℕ
zone_text None = []
zone_text (Some z) = 46 ∷ in_two_digits z

abbrev pub address_text : Address → List ℕ
address_text a = a.device ++ zone_text a.zone

-- a field as it is spelled, and the colon that ends it
abbrev pub ended : List ℕ → List ℕ
ended field = spelling field ++ (58 ∷ [])

abbrev pub body_text : List (List ℕ) → List ℕ
body_text [] = []
body_text (f ∷ fs) = ended f ++ body_text fs

-- address and mark, each ended by a slash
abbrev pub head_text : List ℕ → ℕ → List ℕ
head_text address mark = address ++ (47 ∷ mark ∷ 47 ∷ [])

-- the third slash and the check, which counts all up to and with that slash
abbrev pub closed : List ℕ → List ℕ
closed l = l ++ (47 ∷ in_two_digits (check_of (l ++ (47 ∷ []))))

abbrev pub canonical : Message → List ℕ
canonical m = closed (head_text (address_text m.address) m.mark ++ body_text m.fields)

-- ---- which messages have their forms, and which can be sent
abbrev pub is_length : ℕ → Option ℕ → Bool
is_length n None = false
is_length n (Some k) = k == n

-- the bytes name a device, and nothing follows it
abbrev pub is_device : List ℕ → Bool
is_device s = is_length (length s) (device_length s)

abbrev pub is_zone : Option ℕ → Bool
is_zone None = true
is_zone (Some z) = cond (nat_le 1 z) (nat_le z 99) false

abbrev pub no_zone : Option ℕ → Bool
no_zone None = true
no_zone (Some z) = false

-- an answer's address may be ??, which has no zone
abbrev pub is_address : Side → Address → Bool
is_address command a = cond (is_device a.device) (is_zone a.zone) false
is_address answer a = cond (unaddressed a.device) (no_zone a.zone) (cond (is_device a.device) (is_zone a.zone) false)

abbrev pub first_formed : Side → List (List ℕ) → Bool
first_formed side [] = false
first_formed side (f ∷ fs) = is_first_field side f

abbrev pub formed : Message → Bool
formed m = cond (is_address m.side m.address) (cond (is_mark m.side m.mark) (first_formed m.side m.fields) false) false

abbrev pub sendable : Message → Bool
sendable m = cond (formed m) (nat_le (length (canonical m)) 1024) false
