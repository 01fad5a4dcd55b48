use Rattle.std.proofs.Common.{◌≡◌, ℕ, ◌<◌, List, length, Some, Ok, Option, sym, refl, ap, ◌∙◌, subst, rules}
use Rattle.lease.specs.declared.lease.Lease.{Lease}
use Rattle.lease.specs.declared.message.Grant as given
use Rattle.lease.specs.declared.message.Request as asked
use Rattle.lease.specs.Settings as model
use Rattle.lease.specs.World as world
use Rattle.lease.specs.Of.{settings_of}
use Rattle.lease.specs.Run.{Answer, answer}
use Rattle.lease.specs.Stands.{server_of}
use Rattle.lease.specs.Choosing.{choose}
use Rattle.lease.proofs.Answers.{GrantedBy, Meant, meant}
use Rattle.lease.proofs.Choosing.{laws}
use Rattle.journal.specs.Append.{Plan, plan}
use Rattle.journal.specs.Durable.{CutFile}
use Rattle.journal.specs.Image.{table_in}
use Rattle.journal.specs.Memory.{cursor_of}
use Rattle.server.specs.Of.{lender_of}
use Rattle.server.specs.Server.{State, planned}
use Rattle.server.proofs.Hearing.{requested_ok}
use Rattle.server.proofs.lender.Lender.request.Goals as goal

pub returns : goal.returns
returns c =
    let k : model.Settings = settings_of c.args.self.now.keeper.settings in
    let v : world.Server = server_of c.args.self.now.keeper in
    let r : asked.Request = c.args.request in
    let g : given.Grant = c.in-Some.grant in
    let s : State = lender_of c.args.self.now c.args.journal.now in
    let a : answer k v r ≡ Ok (Some g) = sym c.in_ok-grant.ensures ∙ ap Ok c.in-Some.is in
    let b : GrantedBy k v r g = subst (λ (x : Answer). Meant k v r x) a (meant k v r) in
    let below : g.address < k.addresses = (laws k.addresses v.clock v.table r (choose k.addresses v.clock v.table r) refl).below g.address b.chosen in
    let xs : List (Option Lease) = c.args.self.now.keeper.table in
    let n : length xs ≡ c.args.self.now.keeper.settings.addresses = c.args.self.now.keeper.sized in
    let t : c.ticks-now.result ≡ c.args.self.now.keeper.clock.ticks = search rules in
    let p : plan 4096 (length c.places.result.now) c.ticks-now.result (cursor_of c.args.journal.now) (table_in c.places.result.now) ≡ planned k s =
    ap (λ (ys : List (Option Lease)). plan 4096 (length ys) c.ticks-now.result (cursor_of c.args.journal.now) (table_in ys)) c.places.ensures.value
    ∙ ap (λ (i : ℕ). plan 4096 i c.ticks-now.result (cursor_of c.args.journal.now) (table_in xs)) n
    ∙ ap (λ (i : ℕ). plan 4096 c.args.self.now.keeper.settings.addresses i (cursor_of c.args.journal.now) (table_in xs)) t in
    requested_ok k r g s _ _ _ _ a (record {
      state = search rules;
      effects = search rules;
      file = subst (λ (y : Lease). CutFile c.args.journal.now c.append.new.self (planned k s) y c.in_ok-written.written) c.lease-lease.ensures
          (subst (λ (q : Plan). CutFile c.args.journal.now c.append.new.self q c.lease-lease.result c.in_ok-written.written) p c.in_ok-written.ensures.file);
    })
