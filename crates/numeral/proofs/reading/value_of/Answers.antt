use Rattle.std.proofs.Common.{◌≡◌, ℕ, ◌+◌, ◌*◌, ◌^◌, ◌<◌, length, get_or, drop, sym, ap, ◌∙◌, subst, arith}
use Rattle.numeral.specs.Numbers.{spelled_on}
use Rattle.numeral.proofs.Numerals.{ten_times, digit_bounds, digit_on, digit_none, digits_end}
use Rattle.numeral.proofs.reading.value_of.Goals as goal

pub returns-then-not-is_digit : goal.returns-then-not-is_digit
returns-then-not-is_digit c = record {
  value = sym (sym c.loop-d.invariant.1 ∙ digit_none c.args.digits.now c.loop-d.n c.loop-d.d-index (omega arith) (sym c.if-not-is_digit.ensures));
  small = tt;
}

pub loop-d-preserved : goal.loop-d-preserved
loop-d-preserved c =
    let d = digit_bounds (get_or c.args.digits.now c.loop-d.d-index 0) c.if-not-is_digit.ensures in
    let t = ten_times c.loop-d.d-index in (
      omega (arith, c.loop-d.invariant.0),
      ap (λ (k : ℕ). spelled_on (c.loop-d.n * 10 + k) (drop (c.loop-d.d-index + 1) c.args.digits.now)) c.from.ensures
          ∙ sym (digit_on c.args.digits.now c.loop-d.n c.loop-d.d-index (omega arith) (sym c.if-not-is_digit.ensures)) ∙ c.loop-d.invariant.1,
    )

pub returns : goal.returns
returns c =
    let i : c.loop-d.d-index ≡ length c.args.digits.now = omega arith in
    record {
      value = sym (sym c.loop-d.invariant.1 ∙ digits_end c.args.digits.now c.loop-d.n c.loop-d.d-index (omega arith));
      small = subst (λ (k : ℕ). c.loop-d.n < 10 ^ k) i c.loop-d.invariant.0;
    }
