use Rattle.std.proofs.Common.{◌≡◌, ◌++◌, take, vec_items}
use Rattle.stream.specs.Said.{spoken}
use Rattle.stream.proofs.outbox.Outbox.put_all.Given as goal

abbrev pub invariant-loop-message : goal.invariant-loop-message
invariant-loop-message l = vec_items l.self.bytes ≡ vec_items l.initial.self.bytes ++ spoken (take l.message-index l.messages)
