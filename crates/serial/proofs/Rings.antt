-- What a ring holds after bytes come in behind and go out in front, shown place by place.
use Rattle.std.proofs.Common.{◌≡◌, ℕ, ◌+◌, ◌-◌, ◌<◌, ◌≤◌, min, List, ◌++◌, length, take, drop, ap, ◌∙◌, arith, rules, length-append}
use Rattle.std.proofs.Math.Nat.{add_assoc}
use Rattle.std.proofs.lemmas.List.{same_lists, places, length-take-le}
use Rattle.byte_slices.specs.Parts.{Filled}
use Rattle.serial.specs.Queues.{ring, Wrapped}
use Rattle.serial.specs.Sizes.{capacity}

pub length_ring : (bytes : List ℕ) (head len : ℕ) → length bytes ≡ capacity → head < capacity → len ≤ capacity → length (ring bytes head len) ≡ len
length_ring bytes head len n h l = search (rules, places)

-- The first j of src behind what is held in one copy, which does not pass the ring's end.
ring_run : (old new src : List ℕ) (head len tail j : ℕ) → length old ≡ capacity → head < capacity → len + j ≤ capacity → tail + j ≤ capacity → j ≤ length src → Wrapped (head + len) tail
    → new ≡ take tail old ++ (take j src ++ drop (tail + j) old) → ring new head (len + j) ≡ ring old head len ++ take j src
ring_run old new src head len tail j n h l m o w is = rw is (same_lists _ _ (search (rules, places)) (λ i d t. grind (arith, places)))

-- The first a of src, and then the rest of it, are all of it.
two_parts : (held src : List ℕ) (a b : ℕ) → a + b ≡ length src → held ++ take a src ++ take b (take (length src - a) (drop a src)) ≡ held ++ src
two_parts held src a b all = same_lists _ _ (search (rules, places)) (λ i d t. grind (arith, places))

-- All of src behind what is held, in two copies: the second goes on where the first stopped.
pub ring_filled : (old mid new src : List ℕ) (head len t₁ a t₂ b : ℕ) → length old ≡ capacity → head < capacity → len + length src ≤ capacity → Wrapped (head + len) t₁ → Wrapped (head + len + a) t₂
    → Filled old mid t₁ src a → Filled mid new t₂ (take (length src - a) (drop a src)) b → ring new head (len + length src) ≡ ring old head len ++ src
ring_filled old mid new src head len t₁ a t₂ b n h l w₁ w₂ f₁ f₂ =
    let size : length mid ≡ length old = rw f₁.list (search (rules, places)) in
    let all : a + b ≡ length src = search (rules, places, f₁.count, f₂.count) in
    let one = ring_run old mid src head len t₁ a n h (omega arith) (search (rules, f₁.count)) (omega arith) w₁ f₁.list in
    let two = ring_run mid new _ head (len + a) t₂ b (size ∙ n) h (omega arith) (search (rules, f₂.count)) (search (rules, places)) (rw add_assoc at w₂) f₂.list in
    rw (add_assoc len a b, all, one) at two ∙ two_parts (ring old head len) src a b all

-- The first k of src came in behind.
pub ring_put : (old new src : List ℕ) (head len k : ℕ) → k ≤ length src → ring new head (len + length (take k src)) ≡ ring old head len ++ take k src
    → (ring new head (len + k) ≡ ring old head len ++ take k src) × (length (ring new head (len + k)) ≡ length (ring old head len) + k)
ring_put old new src head len k m is =
    let size : length (take k src) ≡ k = length-take-le k src m in
    let holds : ring new head (len + k) ≡ ring old head len ++ take k src = rw size at is in
    (holds, ap length holds ∙ length-append (ring old head len) (take k src) ∙ ap (λ n. length (ring old head len) + n) size)

-- A buffer filled from a ring in two copies: first what lies before the ring's end, then the rest from its start.
pub ring_copied : (bytes old mid new : List ℕ) (head a b : ℕ) → length bytes ≡ capacity → head < capacity → length old ≤ capacity
    → a ≡ min (length old) (capacity - head) → mid ≡ take a (drop head bytes) ++ drop a old → Filled mid new a bytes b → new ≡ ring bytes head (length old)
ring_copied bytes old mid new head a b n h l ea em f =
    let size : length mid ≡ length old = rw em (search (rules, places)) in
    let rest : b ≡ length old - a = f.count ∙ search rules in
    rw (f.list, em) (same_lists _ _ (search (rules, places)) (λ i d t. grind (arith, places)))

-- As many bytes of a ring as the first k places of a buffer take are the first k of what is held.
pub ring_front : (bytes dst : List ℕ) (head len k : ℕ) → k ≤ len → k ≤ length dst → ring bytes head (length (take k dst)) ≡ take k (ring bytes head len)
ring_front bytes dst head len k m o = rw (length-take-le k dst o) (same_lists _ _ (search (rules, places)) (λ i d t. grind (arith, places)))

-- What is held after k bytes went out in front.
pub ring_rest : (bytes : List ℕ) (head len k next : ℕ) → length bytes ≡ capacity → head < capacity → len ≤ capacity → k ≤ len → Wrapped (head + k) next → ring bytes next (len - k) ≡ drop k (ring bytes head len)
ring_rest bytes head len k next n h l m w = same_lists _ _ (search (rules, places)) (λ i d t. grind (arith, places))
