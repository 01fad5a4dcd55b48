use Rattle.std.proofs.Common.{◌≡◌, ◌++◌, vec_items}
use Rattle.wire.specs.declared.message.Message.TheVariants.{Tick}
use Rattle.wire.specs.Message.{encoded}
use Rattle.text.specs.Entry.{copies, entry_bytes}
use Rattle.text.proofs.form.Addressee.append_ticks.Given as goal

abbrev pub invariant-loop : goal.invariant-loop
invariant-loop l = vec_items l.out ≡ vec_items l.initial.out ++ copies l.counter (entry_bytes l.self.form l.self.who (encoded Tick))
