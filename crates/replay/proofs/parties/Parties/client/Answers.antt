use Rattle.std.proofs.Common.{◌<◌, length, vec_items, sym, arith}
use Rattle.replay.proofs.Places.{client-read}
use Rattle.replay.proofs.parties.Parties.client.Goals as goal

pub returns : goal.returns
returns c =
    let h : c.args.place < length (vec_items c.args.self.now.clients) = omega (arith, c.args.self.now.clients.ok.0, c.args.self.now.sized) in
    sym (client-read (vec_items c.args.self.now.clients) c.args.place c.index.result.now h c.index.ensures)
