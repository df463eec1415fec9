use Rattle.std.proofs.Common.{arith}
use Rattle.line.proofs.Devices.{serial_by}
use Rattle.line.proofs.address.serial_len.Goals as goal

pub returns : goal.returns
returns c = serial_by c.args.digits.now c.all_hex.result _ (omega arith) c.all_hex.ensures c.then_some.ensures
