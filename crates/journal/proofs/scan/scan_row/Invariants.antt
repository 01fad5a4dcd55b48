use Rattle.std.proofs.Common.{◌≡◌, [], get_or}
use Rattle.journal.specs.Bytes.{place_of}
use Rattle.journal.specs.Image.{scanned}
use Rattle.journal.proofs.scan.scan_row.Given as goal

abbrev pub invariant-loop-k : goal.invariant-loop-k
invariant-loop-k l = l.scan ≡ scanned (λ k. place_of (get_or l.row k [])) l.k
