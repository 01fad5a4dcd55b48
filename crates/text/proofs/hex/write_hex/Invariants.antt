use Rattle.std.proofs.Common.{◌≡◌, ◌++◌, drop, vec_items}
use Rattle.text.specs.Hex.{written}
use Rattle.text.proofs.hex.write_hex.Given as goal

abbrev pub invariant-loop-byte : goal.invariant-loop-byte
invariant-loop-byte l = vec_items l.out ++ written (drop l.byte-index l.bytes) ≡ vec_items l.initial.out ++ written l.bytes
