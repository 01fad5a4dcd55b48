use Rattle.std.proofs.Common.{◌≡◌, ℕ, ◌<◌, true, length, vec_items, refl, ap, ◌∙◌, arith, rules}
use Rattle.lease.specs.World as world
use Rattle.lease.specs.Stands.{server_of}
use Rattle.simulation.specs.Play.{messages_of}
use Rattle.simulation.proofs.Steps.{put}
use Rattle.simulation.proofs.simulation.Simulation.client_starts.Goals as goal

pub returns : goal.returns
returns c =
    let h : c.args.client < length (vec_items c.args.self.now.clients) = omega (arith, c.in_ok-client.ensures.0, c.args.self.now.clients.ok.0) in
    let e : c.in_ok-clock.clock.ticks ≡ c.args.clock = search rules in
    record {
      step = put (server_of c.args.self.now.keeper) (messages_of (vec_items c.args.self.now.sent)) (vec_items c.args.self.now.clients) c.args.client c.start.result _ h
          (c.start.ensures ∙ ap (λ (n : ℕ). world.knowing_nothing n true) e);
      settings = refl;
      clients = search rules;
    }
