use Rattle.script.proofs.Readings.{never_both}
use Rattle.script.proofs.laws.never_both.Goals as goal

pub returns : goal.returns
returns c = never_both
