use Rattle.server.proofs.Following.{begins, run-goes_on, run-is-cut, run-ticks}
use Rattle.server.proofs.laws.runs_go_on.Goals as goal

pub returns : goal.returns
returns c = record { begins = begins; steps = run-goes_on; ticks = run-ticks; cuts = run-is-cut }
