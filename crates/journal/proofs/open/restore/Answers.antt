use Rattle.std.proofs.Common.{rules, ◌≡◌, ℕ, ◌+◌, ◌<◌, List, Option, [], length, get_or, None, sym, ap, ◌∙◌, subst, arith}
use Rattle.std.proofs.lemmas.List.{get_or-replicate}
use Rattle.lease.specs.declared.lease.Lease.{Lease}
use Rattle.journal.specs.declared.record.Record.{Record}
use Rattle.journal.specs.Bytes.{zeros, place_from, place_of}
use Rattle.journal.specs.Row.{Row, table_of}
use Rattle.journal.proofs.Restores.{restored_some, restored_none}
use Rattle.journal.proofs.open.restore.Goals as goal
use Rattle.journal.proofs.open.restore.Goals.{in-Some, in_default}

pub loop-place-init : goal.loop-place-init
unfolding table_of
loop-place-init c a l =
    ap (λ (xs : List (Option Lease)). get_or xs a None) (c.fill.ensures.after (λ y e. search rules))
    ∙ get_or-replicate {A = Option Lease} (length c.args.table.now) a None None (omega (arith, c.fill.ensures.len))

pub loop-place-preserved : goal.loop-place-preserved
loop-place-preserved c =
    let row : Row = λ k. place_of (get_or c.args.row.now k []) in
    let i : ℕ = c.loop-place.place-index in
    let Goes : List (Option Lease) → Type 0 = λ v. (a : ℕ) → a < length v → get_or v a None ≡ table_of row (i + 1) a in
    elim c.match-decode.branch [
      | in-Some w ↦
          subst Goes (sym w.table-is)
          (restored_some row i c.loop-place.table w.put_lease.new.table w.in-Some.record w.put_lease.auto.table
          (ap (λ (o : Option Record). place_from o (zeros (get_or c.args.row.now i []))) (sym c.decode.ensures.value ∙ w.in-Some.is)) c.loop-place.invariant w.put_lease.ensures)
      | in_default w ↦
          subst Goes (sym w.table-is)
          (restored_none row i c.loop-place.table (zeros (get_or c.args.row.now i []))
          (ap (λ (o : Option Record). place_from o (zeros (get_or c.args.row.now i []))) (sym c.decode.ensures.value ∙ w.in_default.is)) c.loop-place.invariant)
    ]
