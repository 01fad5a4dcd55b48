use Rattle.std.proofs.Common.{◌≡◌, ◌++◌, map, reverse}
use Rattle.seen.specs.Seen.{stamps_of}
use Rattle.replay.specs.Watch.{stamps_in}
use Rattle.replay.proofs.watch_steps.note_sent.Given as goal

-- those that were walked over are noted
abbrev pub invariant-loop-message : goal.invariant-loop-message
invariant-loop-message l = stamps_of l.sent ≡ stamps_in l.speaker (reverse (map (λ m. m.now) l.yielded)) ++ stamps_of l.initial.sent
