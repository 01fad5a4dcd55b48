use Rattle.std.proofs.Common.{◌-◌}
use Rattle.house.specs.Acts.{Grows, saves, bytes_in}
use Rattle.house.proofs.perform.save_all.Given as goal

abbrev pub invariant-loop-place : goal.invariant-loop-place
invariant-loop-place g l = Grows g.O.Outside.did l.initial.outside (saves (bytes_in l.server) l.first (l.place - l.first)) l.outside
