use Rattle.std.proofs.Common.{◌≡◌, [], drop, length, Ok, vec_items}
use Rattle.text.specs.Pieces.{newline}
use Rattle.text.specs.Read.{reading}
use Rattle.text.proofs.Cutting.{cut}
use Rattle.text.proofs.reading.read_text.Given as goal

abbrev pub invariant-loop-i : goal.invariant-loop-i
invariant-loop-i l =
    (goal.iterator-loop-i).can_next l.i-iterator × (goal.iterator-loop-i).is_finite l.i-iterator
    × (reading l.form (length l.yielded) (vec_items l.out) (Ok []) (drop (length l.yielded) (cut newline l.text)) ≡ reading l.form 0 [] (Ok []) (cut newline l.text))
