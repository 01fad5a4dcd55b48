use Rattle.checksum.specs.Crc.{crc, continued}
use Rattle.checksum.proofs.Burst.{has_32_bits, detects_bursts, detects_changed_bytes}
use Rattle.checksum.proofs.crc32c.Goals as goal

pub returns : goal.returns
unfolding crc continued
returns c = record { value = c.crc32c_append.ensures.value; word = has_32_bits; bursts = detects_bursts; changes = detects_changed_bytes }
