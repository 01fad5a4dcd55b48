use Rattle.std.proofs.Common.{refl, arith}
use Rattle.journal.proofs.Appendings.{row_appended}
use Rattle.journal.proofs.journal.Journal.append_in_row.Goals as goal

pub returns : goal.returns
returns c =
    row_appended c.args.self.now c.write.new.self c.args.lease _ c.write.ensures.bytes c.write.ensures.device c.write.ensures.legible c.write.ensures.cursor c.write.ensures.found
    c.place.ensures.value refl (omega (arith, c.if-row.false)) c.requires
