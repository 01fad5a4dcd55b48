use Rattle.std.proofs.Common.{◌≡◌, ◌≤◌, length, vec_items}
use Rattle.text.specs.Entries.{entries}
use Rattle.text.specs.Write.{writing, write_text}
use Rattle.text.proofs.writing.write_text.Given as goal

abbrev pub invariant-loop-rest : goal.invariant-loop-rest
invariant-loop-rest l = (writing l.form (length l.bytes) (vec_items l.out) l.run (entries l.form l.rest) ≡ write_text l.form l.bytes) × (length l.rest ≤ length l.bytes)

abbrev pub decreases-loop-rest : goal.decreases-loop-rest
decreases-loop-rest l = length l.rest
