use Rattle.lease.proofs.Witness.{lent-on, last_tick_lem, lent-anew, keeps-renewing}
use Rattle.lease.proofs.theorems.witnesses.Goals as goal

pub returns : goal.returns
returns c = record { lent_on = lent-on; last_tick = last_tick_lem; lent_anew = lent-anew; renewed = keeps-renewing }
