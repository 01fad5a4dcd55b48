use Rattle.std.proofs.Common.{take}
use Rattle.house.specs.Acts.{Grows, acts, bytes_in}
use Rattle.house.proofs.perform.perform.Given as goal

abbrev pub invariant-loop-effect : goal.invariant-loop-effect
invariant-loop-effect g l = Grows g.O.Outside.did l.initial.outside (acts (bytes_in l.server) (take l.effect-index l.effects)) l.outside
