use Rattle.std.proofs.Common.{Err, rules}
use Rattle.lease.specs.declared.fault.Fault.TheVariants.{Malformed}
use Rattle.wire.specs.Decode.{pool}
use Rattle.wire.specs.Read.{read}
use Rattle.wire.proofs.Refusals.{law}
use Rattle.wire.proofs.message.Message.decode.Goals as goal

pub returns-clause-law : goal.returns-clause-law
unfolding read
returns-clause-law c =
    law c.args.reader (pool c.args.settings) c.args.bytes.now (λ i. (c.type_inv.bytes i).fits) c.judge.result (search rules)

pub returns-in_default-clause-law : goal.returns-in_default-clause-law
unfolding read
returns-in_default-clause-law c =
    law c.args.reader (pool c.args.settings) c.args.bytes.now (λ i. (c.type_inv.bytes i).fits) (Err Malformed) (search rules)
