use Rattle.std.proofs.Common.{◌≡◌, ℕ, ◌<◌, List, length, Some, Ok, vec_items, sym, refl, ap, ◌∙◌, subst, arith, rules}
use Rattle.lease.specs.declared.settings.Settings.{Settings}
use Rattle.lease.specs.World as world
use Rattle.lease.specs.Of.{settings_of}
use Rattle.lease.specs.Stands.{server_of, HolderHeard}
use Rattle.simulation.specs.declared.event.Sent.{Sent}
use Rattle.simulation.specs.Play.{message_of, messages_of}
use Rattle.simulation.proofs.Steps.{hear_step}
use Rattle.simulation.proofs.simulation.Simulation.client_hears.Goals as goal

pub returns-in-Ok : goal.returns-in-Ok
returns-in-Ok c =
    let h : c.args.client < length (vec_items c.args.self.now.clients) = omega (arith, c.in_ok-holder.ensures.0, c.args.self.now.clients.ok.0) in
    let t : c.term-term.result ≡ c.args.self.now.keeper.settings.term = c.term-term.ensures ∙ ap (λ (s : Settings). s.term) c.settings.ensures in
    record {
      step = hear_step (settings_of c.args.self.now.keeper.settings) (server_of c.args.self.now.keeper) (vec_items c.args.self.now.clients) (messages_of (vec_items c.args.self.now.sent))
          c.args.client _ c.in-Ok.after c.in-Some-Grant.grant _
          (sym (ap (λ (m : Sent). Some (message_of m)) c.in-Some-Grant.field-0-is) ∙ c.in-Some-Grant.ensures ∙ ap (λ (l : List Sent). world.sent c.args.which (messages_of l)) c.deref.ensures.value)
          h c.in_ok-holder.ensures.1 (subst (λ (n : ℕ). HolderHeard n c.args.client c.in-Some-Grant.grant (Ok c.in-Ok.after) c.in_ok-holder.holder) t c.in-Ok.ensures);
      settings = refl;
      clients = search rules;
    }
