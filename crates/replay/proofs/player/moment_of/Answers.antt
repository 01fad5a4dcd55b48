use Rattle.std.proofs.Common.{true, false, Option, sym, refl, ap, ◌∙◌}
use Rattle.wire.specs.declared.message.Message.{Message}
use Rattle.wire.specs.Read.{read}
use Rattle.system.specs.Report.{ticks_next}
use Rattle.system.specs.Watch.{is_tick_in}
use Rattle.replay.specs.Played.{events_in}
use Rattle.replay.proofs.Plays.{judged_is}
use Rattle.replay.proofs.player.moment_of.Goals as goal
use Rattle.replay.proofs.player.moment_of.Goals.{else-is_tick-via-then-is_tick+else-begins_with_tick, else-is_tick-via-else-is_tick}

pub returns-then-begins_with_tick : goal.returns-then-begins_with_tick
unfolding read
returns-then-begins_with_tick c =
    judged_is c.args.entry.now c.args.after.now true true (sym c.if-is_tick.true ∙ c.is_tick.ensures ∙ ap (λ (o : Option Message). is_tick_in o) c.read.ensures) (sym c.if-begins_with_tick.true ∙ c.begins_with_tick.ensures)

pub returns : goal.returns
unfolding read
returns c =
    elim c.else-is_tick.branch [
      | else-is_tick-via-then-is_tick+else-begins_with_tick w ↦
          judged_is c.args.entry.now c.args.after.now true false (sym w.if-is_tick.true ∙ c.is_tick.ensures ∙ ap (λ (o : Option Message). is_tick_in o) c.read.ensures) (sym w.if-begins_with_tick.false ∙ w.begins_with_tick.ensures)
      | else-is_tick-via-else-is_tick w ↦
          judged_is c.args.entry.now c.args.after.now false (ticks_next (events_in c.args.after.now)) (sym w.if-is_tick.false ∙ c.is_tick.ensures ∙ ap (λ (o : Option Message). is_tick_in o) c.read.ensures) refl
    ]
