use Rattle.std.proofs.Common.{rules}
use Rattle.port.proofs.Runs.{keeps}
use Rattle.port.proofs.line_control.LineControl.new.Goals as goal

pub returns : goal.returns
returns g c = search (rules, keeps)
