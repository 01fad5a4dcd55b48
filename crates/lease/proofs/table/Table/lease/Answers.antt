use Rattle.std.proofs.Common.{rules, ◌≡◌, ℕ, Option, Some, None, IfSome, sym}
use Rattle.lease.specs.declared.lease.Lease.{Lease}
use Rattle.lease.specs.Table as table
use Rattle.lease.proofs.table.Table.lease.Goals as goal

placed-in : (t : table.Table) (a : ℕ) (r : Option Lease) → table.Placed t → r ≡ t a → IfSome r (λ l. l.address ≡ a)
placed-in t a None p e = tt
placed-in t a (Some l) p e = p a l (sym e)

pub returns-clause-placed : goal.returns-clause-placed
returns-clause-placed c =
    placed-in (table.table_of c.args.self.now) c.args.address c.in_ok-get.field-0.now (rw (← c.self.view_is) c.self.invariant.1) (search rules)
