-- The forms of the parts of a line: address, mark, check, and the first field of the body.
use Rattle.std.specs.Prelude.{ℕ, ◌+◌, ◌-◌, ◌*◌, ◌%◌, Bool, true, false, cond, List, [], ◌∷◌, length, take, drop, Some, None, Option, ◌==◌, nat_le}
use Rattle.escape.specs.Tokens.{digit}

-- a line is read as a command, which goes to a player, or as an answer, which comes from one
pub data Side : Type 0 where
  command : Side
  answer : Side

-- ---- characters
-- a byte that may stand in a line
abbrev pub visible : ℕ → Bool
visible b = cond (nat_le 32 b) (nat_le b 126) false

abbrev pub capital : ℕ → Bool
capital b = cond (nat_le 65 b) (nat_le b 90) false

-- 0 to 9 and A to F
abbrev pub hex_digit : ℕ → Bool
hex_digit b = cond (digit b) true (cond (nat_le 65 b) (nat_le b 70) false)

-- A to Z, 0 to 9 and _
abbrev pub name_byte : ℕ → Bool
name_byte b = cond (capital b) true (cond (digit b) true (b == 95))

abbrev pub every : (ℕ → Bool) → List ℕ → Bool
every test [] = true
every test (b ∷ s) = cond (test b) (every test s) false

-- ---- two digits
abbrev pub digit_pair : ℕ → ℕ → Option ℕ
digit_pair a b = cond (digit a) (cond (digit b) (Some ((a - 48) * 10 + (b - 48))) None) None

-- 00 to 99
abbrev pub two_digits : List ℕ → Option ℕ
two_digits [] = None
two_digits (a ∷ []) = None
two_digits (a ∷ b ∷ []) = digit_pair a b
two_digits (a ∷ b ∷ c ∷ s) = None

abbrev pub unless_zero : Option ℕ → Option ℕ
unless_zero None = None
unless_zero (Some n) = cond (n == 0) None (Some n)

-- ---- addresses
-- the device, as its bytes stand, and the music zone
pub record Address : Type 0 where
  pub device : List ℕ
  pub zone : Option ℕ

-- how many bytes at the front name a device: # and twelve hex digits, or two digits from 01 to 99
abbrev pub serial_length : List ℕ → Option ℕ
serial_length s = cond (nat_le 12 (length s)) (cond (every hex_digit (take 12 s)) (Some 13) None) None

abbrev pub if_some : Option ℕ → ℕ → Option ℕ
if_some None n = None
if_some (Some x) n = Some n

abbrev pub pair_length : ℕ → List ℕ → Option ℕ
pair_length a [] = None
pair_length a (b ∷ s) = if_some (unless_zero (digit_pair a b)) 2

abbrev pub device_length : List ℕ → Option ℕ
device_length [] = None
device_length (b ∷ s) = cond (b == 35) (serial_length s) (pair_length b s)

abbrev pub zone_read : Option ℕ → Option (Option ℕ)
zone_read None = None
zone_read (Some z) = Some (Some z)

-- what follows the device: nothing, or a point and a zone from 01 to 99
abbrev pub zone_of : List ℕ → Option (Option ℕ)
zone_of [] = Some None
zone_of (p ∷ s) = cond (p == 46) (zone_read (unless_zero (two_digits s))) None

abbrev pub with_zone : List ℕ → Option (Option ℕ) → Option Address
with_zone device None = None
with_zone device (Some z) = Some (record { device = device; zone = z })

abbrev pub split_device : List ℕ → Option ℕ → Option Address
split_device s None = None
split_device s (Some n) = with_zone (take n s) (zone_of (drop n s))

-- the address ?? of an answer
abbrev pub unaddressed : List ℕ → Bool
unaddressed [] = false
unaddressed (a ∷ []) = false
unaddressed (a ∷ b ∷ []) = cond (a == 63) (b == 63) false
unaddressed (a ∷ b ∷ c ∷ s) = false

abbrev pub address_of : Side → List ℕ → Option Address
address_of command s = split_device s (device_length s)
address_of answer s = cond (unaddressed s) (Some (record { device = s; zone = None })) (split_device s (device_length s))

-- ---- marks: a digit, and in an answer also ! for an event and ? for an unknown number
abbrev pub is_mark : Side → ℕ → Bool
is_mark command m = digit m
is_mark answer m = cond (digit m) true (cond (m == 33) true (m == 63))

abbrev pub mark_of : Side → List ℕ → Option ℕ
mark_of side [] = None
mark_of side (m ∷ []) = cond (is_mark side m) (Some m) None
mark_of side (m ∷ x ∷ s) = None

-- ---- the check: the sum of the bytes modulo 100
abbrev pub sum : List ℕ → ℕ
sum [] = 0
sum (b ∷ s) = b + sum s

abbrev pub check_of : List ℕ → ℕ
check_of s = sum s % 100

-- ---- the first field: a status of three digits, or a name of 1 to 64 characters of which the first is a letter
abbrev pub is_status : List ℕ → Bool
is_status [] = false
is_status (a ∷ []) = false
is_status (a ∷ b ∷ []) = false
is_status (a ∷ b ∷ c ∷ []) = cond (digit a) (cond (digit b) (digit c) false) false
is_status (a ∷ b ∷ c ∷ d ∷ s) = false

abbrev pub is_name : List ℕ → Bool
is_name [] = false
is_name (a ∷ s) = cond (capital a) (cond (every name_byte s) (nat_le (length s) 63) false) false

abbrev pub is_first_field : Side → List ℕ → Bool
is_first_field command s = is_name s
is_first_field answer s = is_status s
