use Rattle.replay.proofs.Leads.{NotedTo}
use Rattle.replay.proofs.watch_steps.note_clocks.Given as goal

abbrev pub invariant-loop-place : goal.invariant-loop-place
invariant-loop-place l = NotedTo l.clients l.server.ticks l.place l.initial.leads l.leads
