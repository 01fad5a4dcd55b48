use Rattle.std.proofs.Common.{◌≡◌, replicate, vec_items, rules}
use Rattle.lease.specs.Stands.{server_of}
use Rattle.simulation.proofs.Steps.{start_of}
use Rattle.simulation.proofs.simulation.Simulation.new.Goals as goal

pub returns : goal.returns
returns c =
    let e : vec_items c.in_ok-clients.clients ≡ replicate c.from.result c.off.result = c.in_ok-clients.ensures.items_if_clones_equal (λ y k. k) in (
      start_of (server_of c.in_ok-keeper.keeper) (vec_items c.in_ok-clients.clients) (vec_items c.new-2.result) c.from.result c.off.result
          c.in_ok-keeper.ensures.1 e c.off.ensures c.new-2.ensures.items,
      c.in_ok-keeper.ensures.0,
      search rules,
    )
