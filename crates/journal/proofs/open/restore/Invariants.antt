use Rattle.std.proofs.Common.{◌≡◌, ℕ, ◌<◌, [], length, get_or, None}
use Rattle.journal.specs.Bytes.{place_of}
use Rattle.journal.specs.Row.{table_of}
use Rattle.journal.proofs.open.restore.Given as goal

abbrev pub invariant-loop-place : goal.invariant-loop-place
invariant-loop-place l = (a : ℕ) → a < length l.table → get_or l.table a None ≡ table_of (λ k. place_of (get_or l.row k [])) l.place-index a
