use Rattle.std.proofs.Common.{◌≡◌, ◌-◌, ◌/◌, ◌^◌, length, drop}
use Rattle.numeral.specs.Numbers.{in_digits}
use Rattle.numeral.proofs.writing.digits.Given as goal

-- the last places hold the last digits, and `rest` is the number without them
abbrev pub invariant-loop-i : goal.invariant-loop-i
invariant-loop-i g l = record {
  size : length l.out ≡ g.row.N;
  written : drop (g.row.N - l.i) l.out ≡ in_digits l.i l.fn.n;
  left : l.rest ≡ l.fn.n / 10 ^ l.i;
}
