use Rattle.std.proofs.Common.{vec_items, sym}
use Rattle.std.proofs.lemmas.List.{append-nil}
use Rattle.wire.specs.declared.message.Message.TheVariants.{Tick}
use Rattle.wire.specs.Message.{encoded}
use Rattle.text.specs.Entry.{copies, entry_bytes}
use Rattle.text.proofs.Copies.{one_more}
use Rattle.text.proofs.form.Addressee.append_ticks.Goals as goal

pub loop-init : goal.loop-init
unfolding copies
loop-init c = sym (append-nil (vec_items c.args.out.now))

pub loop-preserved : goal.loop-preserved
loop-preserved c =
    one_more _ _ (vec_items c.args.out.now) (entry_bytes c.args.self.form c.args.self.who (encoded Tick)) c.loop.counter c.loop.invariant c.in_ok-append_message.ensures
