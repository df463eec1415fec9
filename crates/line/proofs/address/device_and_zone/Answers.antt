use Rattle.line.proofs.Devices.{device_within}
use Rattle.line.proofs.address.device_and_zone.Goals as goal

pub split_at-requires : goal.split_at-requires
split_at-requires c = device_within c.args.s.now c.in_ok-n.n c.in_ok-n.ensures
