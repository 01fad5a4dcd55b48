use Rattle.std.proofs.Common.{◌∙◌}
use Rattle.checksum.proofs.Crc.{check_value, zeros_do_not_fit}
use Rattle.checksum.proofs.check_value.Goals as goal

pub returns : goal.returns
returns c = record { published = check_value; zeros = zeros_do_not_fit; value = c.crc32c.ensures.value ∙ check_value }
