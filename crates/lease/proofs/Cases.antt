-- The worked cases, by computation.
-- Assumes nothing.
use Rattle.std.proofs.Common.{refl}
use Rattle.lease.specs.Choosing.{lowest}
use Rattle.lease.specs.World.{elem, sent}
use Rattle.lease.specs.Run.{world}
use Rattle.lease.specs.Cases.{AllSeen, CasesHold}

pub cases_hold : CasesHold
unfolding AllSeen world elem sent lowest
cases_hold = (refl, (refl, (refl, (refl, (refl, (refl, (refl, (refl, (refl, (refl, (refl, (refl, (refl, tt)))))))))))))
