use Rattle.journal.specs.Image.{device_of}
use Rattle.journal.proofs.Readings.{row_0, row_1}
use Rattle.journal.proofs.open.read.Goals as goal

pub returns : goal.returns
returns c =
    c.choose.ensures (device_of c.args.device.now) (row_0 c.args.device.now c.split_at.result.0.now c.scan_row.result c.split_at.ensures.front c.scan_row.ensures)
    (row_1 c.args.device.now c.split_at.result.1.now c.scan_row-2.result c.split_at.ensures.back c.scan_row-2.ensures)
