use Rattle.simulation.proofs.Parties.{GoneOn}
use Rattle.simulation.proofs.time.pass_all.Given as goal

abbrev pub invariant-loop-i : goal.invariant-loop-i
invariant-loop-i l = GoneOn l.ticks l.i l.initial.clients l.clients
