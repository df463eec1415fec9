-- Parts of a list, after some of a part is gone and after more is written behind it. Each is shown place by place.
use Rattle.std.proofs.Common.{◌≡◌, ℕ, ◌+◌, ◌-◌, ◌≤◌, min, List, ◌++◌, length, take, drop, arith, rules}
use borrow.Rule.Slice.PartMut.{put_mid}
use Rattle.std.proofs.lemmas.List.{same_lists, places}
use Rattle.byte_slices.specs.Parts.{part, Filled}

-- The part that is left once its first k are gone.
pub part_gone : (list : List ℕ) (first end k : ℕ) → k ≤ end - first → part list (first + k) end ≡ drop k (part list first end)
part_gone list first end k h = same_lists _ _ (search (rules, places)) (λ i d l. grind (arith, places))

-- A list that was filled from a place on, or from its end where it does not reach so far.
put_rest : (old rest src : List ℕ) (at start k : ℕ) → start ≡ min at (length old) → rest ≡ take k src ++ drop k (take (length old - start) (drop start old)) → k ≤ length src → k ≤ length old - start → put_mid start (length old - start) old rest ≡ take at old ++ (take k src ++ drop (at + k) old)
put_rest old rest src at start k e is a b = rw is (same_lists _ _ (search (rules, places)) (λ i d l. grind (arith, places)))

-- The same with how much was copied.
pub filled : (old rest src : List ℕ) (at start k : ℕ) → start ≡ min at (length old) → rest ≡ take k src ++ drop k (take (length old - start) (drop start old)) → k ≡ min (length (take (length old - start) (drop start old))) (length src) → Filled old (put_mid start (length old - start) old rest) at src k
filled old rest src at start k e is count =
    let size : length (take (length old - start) (drop start old)) ≡ length old - start = search (rules, places) in
    let fits : k ≤ length src = omega arith in
    let room : k ≤ length old - start = omega arith in
    record { count = omega arith; list = put_rest old rest src at start k e is fits room }

-- A part is the same between bounds that are cut down to where the list ends.
pub part_cut : (list : List ℕ) (first end start stop : ℕ) → stop ≡ min end (length list) → start ≡ min first stop → part list start stop ≡ part list first end
part_cut list first end start stop e f = same_lists _ _ (search (rules, places)) (λ i d l. grind (arith, places))
