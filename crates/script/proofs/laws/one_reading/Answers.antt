use Rattle.script.proofs.Readings.{one-reading}
use Rattle.script.proofs.laws.one_reading.Goals as goal

pub returns : goal.returns
returns c = one-reading
