use Rattle.std.proofs.Common.{◌≡◌, ℕ, ◌<◌, ◌≤◌, Bool, true, false, length, sym, ◌∙◌, rules}
use Rattle.lease.specs.Table.{table_of, vacant}
use Rattle.lease.proofs.Places.{lowest-here, lowest-next, lowest_end}
use Rattle.lease.proofs.table.Table.vacancy.Goals as goal

pub addresses-preserved : goal.addresses-preserved
addresses-preserved c =
    let test : ℕ → Bool = λ a. vacant c.args.clock.ticks (table_of c.args.self.now a) in
    let within : c.addresses.address < length c.args.self.now = search rules in
    let e : test c.addresses.address ≡ false = search rules in
    (c.addresses.invariant.0, c.addresses.invariant.1 ∙ lowest-next test c.addresses.address (length c.args.self.now) within e)

pub returns-then-is_vacant : goal.returns-then-is_vacant
returns-then-is_vacant c =
    let test : ℕ → Bool = λ a. vacant c.args.clock.ticks (table_of c.args.self.now a) in
    let within : c.addresses.address < length c.args.self.now = search rules in
    let e : test c.addresses.address ≡ true = search rules in
    sym (c.addresses.invariant.1 ∙ lowest-here test c.addresses.address (length c.args.self.now) within e)

pub returns-after-addresses : goal.returns-after-addresses
returns-after-addresses c =
    let test : ℕ → Bool = λ a. vacant c.args.clock.ticks (table_of c.args.self.now a) in
    let end : length c.args.self.now ≤ c.addresses.address = search rules in
    c.addresses.invariant.0 ∙ sym (c.addresses.invariant.1 ∙ lowest_end test c.addresses.address (length c.args.self.now) end)
