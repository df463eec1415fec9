-- Numbers in digits, as the check and an escape have them.
use Rattle.std.proofs.Common.{◌≡◌, ℕ, ◌+◌, ◌/◌, ◌%◌, ◌<◌, [], ◌∷◌, arith}
use Rattle.numeral.specs.Numbers.{in_digits}
use Rattle.writer.specs.Canonical.{in_two_digits}

pub in_two : (n : ℕ) → n < 100 → in_digits 2 n ≡ in_two_digits n
unfolding in_digits
in_two n h =
    let tens : n / 10 % 10 ≡ n / 10 = omega arith in
    let ones : n / 1 % 10 ≡ n % 10 = omega arith in
    cc

pub in_three : (n : ℕ) → n < 256 → in_digits 3 n ≡ (48 + n / 100) ∷ (48 + n / 10 % 10) ∷ (48 + n % 10) ∷ []
unfolding in_digits
in_three n h =
    let hundreds : n / 100 % 10 ≡ n / 100 = omega arith in
    let ones : n / 1 % 10 ≡ n % 10 = omega arith in
    cc
