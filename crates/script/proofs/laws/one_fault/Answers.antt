use Rattle.script.proofs.Readings.{one_fault}
use Rattle.script.proofs.laws.one_fault.Goals as goal

pub returns : goal.returns
returns c = one_fault
