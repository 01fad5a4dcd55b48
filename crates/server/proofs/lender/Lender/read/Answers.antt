use Rattle.std.proofs.Common.{◌≡◌, ℕ, List, length, Some, Option, ap, ◌∙◌, subst, arith}
use Rattle.std.proofs.lemmas.List.{with_items_is}
use Rattle.lease.specs.declared.lease.Lease.{Lease}
use Rattle.lease.specs.Stands.{KeeperLoaded}
use Rattle.journal.specs.declared.state.Found.{Found}
use Rattle.lease.specs.Of.{settings_of}
use Rattle.server.specs.Steps.{missing}
use Rattle.server.specs.Server.{tells}
use Rattle.server.proofs.States.{state_by}
use Rattle.server.proofs.Readings.{has_read}
use Rattle.server.proofs.lender.Lender.read.Goals as goal

pub returns : goal.returns
returns c =
    let xs : List (Option Lease) = c.recover.new.table in
    let n : length xs ≡ c.args.self.now.places.len = omega (arith, c.deref_mut.ensures.len, c.args.self.now.places.ok.0) in
    let e : c.deref.result.now ≡ xs = c.deref.ensures.value ∙ with_items_is c.args.self.now.places xs n in
    has_read c.args.self.now.keeper c.load.new.self c.restart.new.self c.args.journal.now c.recover.new.self xs c.args.clock.ticks _ c.told.result
    (n ∙ c.args.self.now.sized) c.recover.ensures.device c.recover.ensures.journal c.recover.ensures.table
    (c.told.ensures.file (Some (settings_of c.args.self.now.keeper.settings)) c.args.journal.now c.recover.new.self (state_by c.args.self.now.keeper c.args.journal.now) c.recover.ensures.device)
    (subst (λ (ys : List (Option Lease)). KeeperLoaded ys c.args.self.now.keeper c.load.new.self) e c.load.ensures)
    (c.read_as-found.ensures ∙ ap (λ (f : Found). missing f) c.recover.ensures.found) c.restart.ensures (c.told.ensures.effects ∙ ap (λ (o : Option ℕ). tells o) c.silent.ensures)
