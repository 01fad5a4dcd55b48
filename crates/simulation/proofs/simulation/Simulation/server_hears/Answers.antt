use Rattle.std.proofs.Common.{List, [], ◌∷◌, ◌++◌, Some, Ok, vec_items, Option, sym, refl, ap, ◌∙◌}
use Rattle.lease.specs.declared.settings.Settings.{Settings}
use Rattle.lease.specs.declared.message.Grant as grant
use Rattle.lease.specs.World as world
use Rattle.lease.specs.Run.{serves}
use Rattle.lease.specs.Of.{settings_of}
use Rattle.lease.specs.Stands.{server_of}
use Rattle.simulation.specs.declared.event.Sent.{Sent}
use Rattle.simulation.specs.declared.event.Sent.TheVariants.{Grant}
use Rattle.simulation.specs.Play.{clients_of, message_of, messages_of}
use Rattle.simulation.proofs.Steps.{grant-step}
use Rattle.simulation.proofs.simulation.Simulation.server_hears.Goals as goal

pub returns-in-Ok-Some : goal.returns-in-Ok-Some
returns-in-Ok-Some c =
    record {
      step = grant-step (settings_of c.args.self.now.keeper.settings) (server_of c.args.self.now.keeper) (server_of c.request.new.self) (clients_of (vec_items c.args.self.now.clients))
          c.in-Some-Request.request c.in-Ok-Some.grant (vec_items c.args.self.now.sent) (vec_items c.push_reserved.new.self) _
          (sym (ap (λ (m : Sent). Some (message_of m)) c.in-Some-Request.field-0-is) ∙ c.in-Some-Request.ensures ∙ ap (λ (l : List Sent). world.sent c.args.which (messages_of l)) c.deref.ensures.value)
          (sym (ap (λ (o : Option grant.Grant). Ok o) c.in-Ok-Some.field-0-is) ∙ c.in-Ok-Some.ensures.0)
          (c.in-Ok-Some.ensures.2 ∙ ap (λ (o : Option grant.Grant). serves (settings_of c.args.self.now.keeper.settings) (Ok o) (server_of c.args.self.now.keeper)) c.in-Ok-Some.field-0-is)
          (c.push_reserved.ensures.items ∙ ap (λ (l : List Sent). l ++ Grant c.in-Ok-Some.grant ∷ []) c.in_ok-reserve.ensures.items);
      settings = ap (λ (s : Settings). settings_of s) c.in-Ok-Some.ensures.1;
      clients = refl;
    }
