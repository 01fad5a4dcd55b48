use Rattle.std.proofs.Common.{◌≡◌, ℕ, ◌<◌, List, Ok, length, get_or, vec_items, ap, ◌∙◌, subst, arith, rules}
use Rattle.std.proofs.lemmas.List.{with_items_is}
use Rattle.lease.specs.declared.holder.Holder.{Holder}
use Rattle.lease.specs.declared.settings.Settings.{Settings}
use Rattle.lease.specs.Run.{client_passes}
use Rattle.lease.specs.Of.{settings_of}
use Rattle.lease.specs.Stands.{server_of, KeeperPassed}
use Rattle.simulation.specs.Play.{clients_of, messages_of}
use Rattle.simulation.proofs.Steps.{whole, pass_step}
use Rattle.simulation.proofs.simulation.Simulation.pass.Goals as goal

pub returns : goal.returns
returns c =
    let xs : List Holder = vec_items c.args.self.now.clients in
    let P : List Holder → Type 0 = λ l. (i : ℕ) → i < length l → clients_of c.pass_all.new.clients i ≡ client_passes (get_or c.args.ticks.now i 0) (clients_of l i) in
    let passed : KeeperPassed (Ok c.in_ok-map_err.field-0) c.args.server c.args.self.now.keeper c.pass.new.self = search rules in
    record {
      step = ap (λ (l : List Holder). whole (server_of c.pass.new.self) (clients_of l) (messages_of (vec_items c.args.self.now.sent)))
          (with_items_is c.args.self.now.clients c.pass_all.new.clients (omega (arith, c.deref_mut.ensures.len, c.args.self.now.clients.ok.0)))
          ∙ pass_step (server_of c.args.self.now.keeper) (server_of c.pass.new.self) xs c.pass_all.new.clients (messages_of (vec_items c.args.self.now.sent))
          c.args.server c.args.ticks.now passed.1 (omega (arith, c.deref_mut.ensures.len, c.args.self.now.clients.ok.0))
          (subst P c.deref_mut.ensures.value c.pass_all.ensures);
      settings = ap (λ (s : Settings). settings_of s) passed.0;
      clients = search rules;
    }
