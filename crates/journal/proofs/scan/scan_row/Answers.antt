use Rattle.std.proofs.Common.{[], get_or, refl}
use Rattle.journal.specs.Bytes.{place_of}
use Rattle.journal.specs.Image.{scanned}
use Rattle.journal.proofs.Scans.{scanned-more}
use Rattle.journal.proofs.scan.scan_row.Goals as goal

pub loop-k-init : goal.loop-k-init
unfolding scanned
loop-k-init c = refl

pub loop-k-preserved : goal.loop-k-preserved
loop-k-preserved c =
    scanned-more (λ k. place_of (get_or c.args.row.now k [])) c.loop-k.k c.loop-k.scan c.noted-scan.result (place_of (get_or c.args.row.now c.loop-k.k []))
    c.loop-k.invariant refl c.noted-scan.ensures
