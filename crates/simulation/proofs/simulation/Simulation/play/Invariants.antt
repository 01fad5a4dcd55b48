use Rattle.simulation.proofs.Steps.{Reached}
use Rattle.simulation.proofs.simulation.Simulation.play.Given as goal

-- the simulation stands for the world after the events so far
abbrev pub invariant-loop-event : goal.invariant-loop-event
invariant-loop-event l = Reached l.events l.event-index l.initial.self l.self
