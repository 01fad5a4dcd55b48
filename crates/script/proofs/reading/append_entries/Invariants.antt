use Rattle.std.proofs.Common.{◌≤◌, length, vec_items, vec_capacity}
use Rattle.script.proofs.Fronts.{Front}
use Rattle.script.proofs.reading.append_entries.Given as goal

abbrev pub invariant-loop-rest : goal.invariant-loop-rest
invariant-loop-rest l = record { front : Front l.bytes l.rest (vec_items l.entries); room : vec_capacity l.initial.entries ≤ vec_capacity l.entries }

abbrev pub decreases-loop-rest : goal.decreases-loop-rest
decreases-loop-rest l = length l.rest
