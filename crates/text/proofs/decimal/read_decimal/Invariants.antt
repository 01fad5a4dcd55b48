use Rattle.std.proofs.Common.{◌≡◌, ◌≤◌, drop, Some}
use Rattle.text.specs.Decimal.{digits_on}
use Rattle.text.proofs.decimal.read_decimal.Given as goal

abbrev pub invariant-loop-byte : goal.invariant-loop-byte
invariant-loop-byte l = (digits_on l.most (Some l.n) (drop l.byte-index l.word) ≡ digits_on l.most (Some 0) l.word) × (l.n ≤ l.most)
