use Rattle.std.proofs.Common.{◌≡◌, Bool, List, Option, ap, ◌∙◌, rules}
use Rattle.std.specs.List.{position}
use Rattle.std.proofs.lemmas.Iterator.{YieldsList-from_slice}
use Rattle.std.proofs.lemmas.Iterator.Search.{position_from_yields_List}
use Rattle.lease.specs.declared.lease.Lease.{Lease}
use Rattle.lease.specs.Table.{owned}
use Rattle.lease.proofs.Places.{by_place}
use Rattle.lease.proofs.table.Table.own.Goals as goal

pub returns : goal.returns
returns c =
    let test : Option Lease → Bool = λ o. owned c.args.clock.ticks c.args.client o in
    let found : c.position-found.result ≡ position test c.deref.result.now
    = position_from_yields_List test _ _ c.position-found.result c.position-found.ensures.ran (YieldsList-from_slice _ c.iter-places.ensures.rest) (λ x b q k. search rules) in
    let mapped : c.map.result ≡ c.position-found.result = search rules in
    let places : c.deref.result.now ≡ c.args.self.now = search rules in
    mapped ∙ found ∙ ap (λ (xs : List (Option Lease)). position test xs) places ∙ by_place test c.args.self.now
