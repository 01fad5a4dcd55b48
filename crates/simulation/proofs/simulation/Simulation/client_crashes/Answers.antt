use Rattle.std.proofs.Common.{◌<◌, false, length, vec_items, sym, refl, ap, ◌∙◌, arith, rules}
use Rattle.lease.specs.World as world
use Rattle.lease.specs.Stands.{server_of}
use Rattle.simulation.specs.Play.{messages_of}
use Rattle.simulation.proofs.Parties.{client-read}
use Rattle.simulation.proofs.Steps.{put}
use Rattle.simulation.proofs.simulation.Simulation.client_crashes.Goals as goal

pub returns : goal.returns
returns c =
    let h : c.args.client < length (vec_items c.args.self.now.clients) = omega (arith, c.in_ok-holder.ensures.0, c.args.self.now.clients.ok.0) in
    record {
      step = put (server_of c.args.self.now.keeper) (messages_of (vec_items c.args.self.now.sent)) (vec_items c.args.self.now.clients) c.args.client c.crash.result _ h
          (c.crash.ensures ∙ ap (λ (x : world.Client). world.knowing_nothing x.clock false) (sym (client-read (vec_items c.args.self.now.clients) c.args.client _ h c.in_ok-holder.ensures.1)));
      settings = refl;
      clients = search rules;
    }
