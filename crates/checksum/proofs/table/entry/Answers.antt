use Rattle.std.proofs.Common.{arith}
use Rattle.std.proofs.lemmas.List.FromFn.{get_or-map-range_with_len}
use Rattle.checksum.specs.Crc.{bit, bits}
use Rattle.checksum.proofs.table.entry.Goals as goal

-- the table is what `bits 8` makes of 0, 1, .. 255, by computing both
pub returns : goal.returns
unfolding bits bit
returns c = get_or-map-range_with_len (bits 8) 0 256 c.args.byte c.args.byte 0 (omega arith) (omega arith)
