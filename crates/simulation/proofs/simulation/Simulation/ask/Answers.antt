use Rattle.std.proofs.Common.{◌≡◌, ◌<◌, true, false, List, [], ◌∷◌, ◌++◌, length, vec_items, sym, refl, ap, ◌∙◌, arith, rules}
use Rattle.std.proofs.lemmas.Bool.{cond-true}
use Rattle.lease.specs.declared.message.Request as request
use Rattle.lease.specs.World as world
use Rattle.lease.specs.Stands.{server_of}
use Rattle.simulation.specs.declared.event.Sent.{Sent}
use Rattle.simulation.specs.declared.event.Sent.TheVariants.{Request}
use Rattle.simulation.specs.Play.{messages_of, nonces}
use Rattle.simulation.proofs.Steps.{ask_step, asked-up}
use Rattle.simulation.proofs.simulation.Simulation.ask.Goals as goal

pub returns-in_ok-push : goal.returns-in_ok-push
returns-in_ok-push c =
    let h : c.args.client < length (vec_items c.args.self.now.clients) = omega (arith, c.in_ok-holder.ensures.0, c.args.self.now.clients.ok.0) in
    let up : (c.in_ok-holder.holder.up ≡ true) × (c.in-Some.request ≡ record { client = c.args.client; nonce = c.args.nonce; preferred = c.args.preferred }) =
    asked-up _ _ _ (sym c.in-Some.is ∙ c.ask-asked.ensures.1) in
    let e : world.elem c.args.nonce (nonces (messages_of (vec_items c.args.self.now.sent))) ≡ false =
    sym (ap (λ (l : List Sent). world.elem c.args.nonce (nonces (messages_of l))) c.deref.ensures.value) ∙ sym c.was_drawn.ensures ∙ c.if-was_drawn.false in
    record {
      step = ask_step (server_of c.args.self.now.keeper) (vec_items c.args.self.now.clients) (vec_items c.args.self.now.sent) (vec_items c.push.new.self)
          c.args.client c.args.nonce c.args.preferred _ c.ask-asked.result.0 h c.in_ok-holder.ensures.1 up.0 e
          (c.ask-asked.ensures.0 ∙ cond-true _ _ _ up.0) (c.in_ok-push.ensures.items ∙ ap (λ (r : request.Request). vec_items c.args.self.now.sent ++ Request r ∷ []) up.1);
      settings = refl;
      clients = search rules;
    }
