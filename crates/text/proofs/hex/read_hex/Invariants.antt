use Rattle.std.proofs.Common.{◌≡◌, ◌++◌, drop, map, vec_items}
use Rattle.text.proofs.Pairs.{both}
use Rattle.text.proofs.hex.read_hex.Given as goal

abbrev pub invariant-loop-high : goal.invariant-loop-high
invariant-loop-high l =
    vec_items l.out ++ map both (drop l.high-index l.pairs) ≡ vec_items l.initial.out ++ map both l.pairs
