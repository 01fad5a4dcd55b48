use Rattle.std.proofs.Common.{◌≡◌, ◌++◌, length, vec_items}
use Rattle.system.specs.Report.{played}
use Rattle.replay.specs.Of.{play_of}
use Rattle.replay.specs.Played.{events_in}
use Rattle.replay.proofs.player.play_all.Given as goal

-- what is reported already and what will be of the rest make the whole
abbrev pub invariant-loop-rest : goal.invariant-loop-rest
invariant-loop-rest l =
    vec_items l.report ++ played (events_in l.rest) (play_of l.simulation)
    ≡ vec_items l.initial.report ++ played (events_in l.initial.rest) (play_of l.initial.simulation)

abbrev pub decreases-loop-rest : goal.decreases-loop-rest
decreases-loop-rest l = length l.rest
