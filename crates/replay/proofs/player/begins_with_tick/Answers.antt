use Rattle.std.proofs.Common.{Option, sym, ap, ◌∙◌}
use Rattle.wire.specs.declared.message.Message.{Message}
use Rattle.wire.specs.Read.{read}
use Rattle.system.specs.Watch.{is_tick_in}
use Rattle.replay.proofs.Plays.{ticks_first}
use Rattle.replay.proofs.player.begins_with_tick.Goals as goal

pub returns-in-len1-up : goal.returns-in-len1-up
unfolding read
returns-in-len1-up c = c.is_tick.ensures ∙ ap (λ (o : Option Message). is_tick_in o) c.read.ensures ∙ sym (ticks_first c.args.entries.now _ c.in-len1-up.len_at_least)
