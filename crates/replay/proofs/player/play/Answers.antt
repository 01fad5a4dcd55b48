use Rattle.std.proofs.Common.{◌≡◌, List, ◌++◌, vec_items, MatchResult, subst, rules}
use Rattle.system.proofs.Promise.{names_no_two}
use Rattle.script.specs.declared.entry.Entry.{Entry}
use Rattle.system.specs.Report.{played}
use Rattle.replay.specs.Of.{play_of}
use Rattle.replay.specs.Played.{Begun, events_in}
use Rattle.replay.proofs.Plays.{ended_is}
use Rattle.replay.proofs.player.play.Goals as goal

pub returns-in_err-read-clause-promise : goal.returns-in_err-read-clause-promise
returns-in_err-read-clause-promise c = names_no_two

pub returns-in_err-simulation-clause-promise : goal.returns-in_err-simulation-clause-promise
returns-in_err-simulation-clause-promise c = names_no_two

pub returns-clause-ended : goal.returns-clause-ended
returns-clause-ended c =
    let h = play_of c.in_ok-simulation.simulation in
    let old = vec_items c.args.report.now in
    let new = vec_items c.play_all.new.report in
    let Ran : List Entry → Type 0 = λ es. MatchResult c.play_all.result (λ _. new ≡ old ++ played (events_in es) h) (λ _. Begun (played (events_in es) h) old new) in
    ended_is c.args.script.now (vec_items c.read.new.entries) old new h c.play_all.result c.map_err.result c.in_ok-read.ensures.reads c.in_ok-simulation.ensures (subst Ran c.deref.ensures.value c.play_all.ensures) (search rules)

pub returns-clause-promise : goal.returns-clause-promise
returns-clause-promise c = names_no_two
