use Rattle.std.proofs.Common.{◌≡◌, ◌≤◌, vec_len}
use Rattle.console.proofs.input.first_bytes.Given as goal

abbrev pub invariant-loop : goal.invariant-loop
invariant-loop l = (vec_len l.bytes ≡ 65536) × (l.len ≤ 65536)
