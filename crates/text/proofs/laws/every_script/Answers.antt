use Rattle.text.proofs.RoundTrip.{every_written}
use Rattle.text.proofs.laws.every_script.Goals as goal

pub returns : goal.returns
returns c = every_written
