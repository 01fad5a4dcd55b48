use Rattle.std.proofs.Common.{rules}
use Rattle.seen.specs.Seen.{stamps_of}
use Rattle.replay.proofs.Stamps.{drawn_is}
use Rattle.replay.proofs.watch.Watch.is_drawn.Goals as goal

pub returns : goal.returns
returns c = drawn_is c.args.nonce c.is_some_and.result (stamps_of c.args.self.now.nonces) (search rules)
