use Rattle.std.proofs.Common.{List, map, refl, ap}
use Rattle.seen.specs.declared.stamp.Stamp.{Stamp}
use Rattle.replay.specs.Watch.{request_of, grant_of, nonces_in}
use Rattle.replay.proofs.Leads.{leads-new}
use Rattle.replay.proofs.Watches.{watch-parts}
use Rattle.replay.proofs.watch.Watch.new.Goals as goal

pub returns : goal.returns
returns c =
    watch-parts (ap (λ (l : List Stamp). map request_of l) c.new.ensures) (ap (λ (l : List Stamp). map grant_of l) c.new-2.ensures)
    (ap (λ (l : List Stamp). nonces_in l) c.new-3.ensures) refl (leads-new _ 65 refl)
