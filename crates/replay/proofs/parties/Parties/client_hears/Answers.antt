use Rattle.std.proofs.Common.{◌<◌, length, vec_items, arith}
use Rattle.replay.proofs.Steps.{client-heard}
use Rattle.replay.proofs.parties.Parties.client_hears.Goals as goal

pub returns : goal.returns
returns c =
    let h : c.args.place < length (vec_items c.args.self.now.clients) = omega (arith, c.args.self.now.clients.ok.0, c.args.self.now.sized) in
    client-heard c.hear.result c.args.self.now c.args.place c.index_mut.result.now c.hear.new.self c.args.bytes.now (vec_items c.args.said.now) (vec_items c.hear.new.out) h
    c.index_mut.ensures.value c.hear.ensures.client c.hear.ensures.out
