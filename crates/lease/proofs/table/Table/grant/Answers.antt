use Rattle.std.proofs.Common.{◌≡◌, sym, ap, ◌∙◌, subst, rules}
use Rattle.lease.specs.Table.{Table, table_of, leased, written, OneEach}
use Rattle.lease.specs.Choosing.{leasing, entered}
use Rattle.lease.proofs.Places.{table-pooled, written-other}
use Rattle.lease.proofs.Tidy.{one-entered}
use Rattle.lease.proofs.table.Table.grant.Goals as goal

pub returns-clause-others : goal.returns-clause-others
returns-clause-others c l b same other =
    let t : Table = table_of c.args.self.now in
    let e : table_of c.restore.new.self ≡ written (leased c.args.clock.ticks c.args.life c.args.request.client c.in_ok-address.address) t = search rules in
    let s : leased c.args.clock.ticks c.args.life c.args.request.client c.in_ok-address.address ≡ l = cc same in
    ap (λ (x : Table). x b) e ∙ written-other t _ l b s other

pub returns-clause-one_each : goal.returns-clause-one_each
returns-clause-one_each c one =
    let t : Table = table_of c.args.self.now in
    let e : table_of c.restore.new.self ≡ entered (leasing c.args.clock.ticks c.args.life c.args.request c.choose-chosen.result) t = search rules in
    subst (λ (x : Table). OneEach c.args.clock.ticks x) (sym e) (one-entered _ _ _ t c.args.request _ (table-pooled c.args.self.now) c.choose-chosen.ensures.laws one)
