use Rattle.std.proofs.Common.{vec_items}
use Rattle.replay.specs.Of.{play_of}
use Rattle.replay.specs.Watch.{is_judged}
use Rattle.replay.proofs.Plays.{behind, play_turn, play_end}
use Rattle.replay.proofs.player.play_all.Goals as goal

pub loop-rest-preserved : goal.loop-rest-preserved
loop-rest-preserved c =
    play_turn c.loop-rest.rest.now _ _ (is_judged c.moment_of-moment.result) (play_of c.loop-rest.simulation) (play_of c.hear.new.self) (vec_items c.loop-rest.report) (vec_items c.hear.new.out) _
    c.in-len1-up.len_at_least (behind c.loop-rest.rest.now) c.moment_of-moment.ensures c.in_ok-hear.ensures.heard c.loop-rest.invariant

pub returns : goal.returns
returns c = play_end c.loop-rest.rest.now (play_of c.loop-rest.simulation) (vec_items c.loop-rest.report) _ c.in_default.len_below c.loop-rest.invariant
