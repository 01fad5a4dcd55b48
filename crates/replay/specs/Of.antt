-- The play that a simulation in memory stands for.
-- Assumes nothing.
use Rattle.system.specs.Report.{Play}
use Rattle.replay.specs.declared.run.Run.{Run}
use Rattle.replay.specs.declared.simulation.Simulation.{Simulation}
use Rattle.replay.specs.Parties.{parties_of}
use Rattle.replay.specs.Watch.{watch_of}

abbrev pub run_of : Run → Play
run_of s = record { parties = parties_of s.parties; watch = watch_of s.watch; named = s.named; shared = s.shared }

abbrev pub play_of : Simulation → Play
play_of s = run_of s.run
