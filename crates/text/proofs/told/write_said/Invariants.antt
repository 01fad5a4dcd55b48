use Rattle.std.proofs.Common.{◌≡◌, ◌++◌, decimal, drop, map, vec_items}
use Rattle.text.specs.Told.{trailed}
use Rattle.text.proofs.told.write_said.Given as goal

abbrev pub invariant-loop-figure : goal.invariant-loop-figure
invariant-loop-figure l =
    vec_items l.out ++ trailed (map decimal (drop l.figure-index l.figures)) ≡ vec_items l.initial.out ++ trailed (map decimal l.figures)
