use Rattle.std.proofs.Common.{◌≡◌, ℕ, ◌+◌, ◌≤◌, List, length, vec_items, sym, ap, ◌∙◌, subst, arith}
use Rattle.lease.specs.declared.lease.Lease.{Lease}
use Rattle.journal.specs.declared.journal.Journal.{Journal}
use Rattle.journal.specs.Table.{Table, keeping}
use Rattle.journal.specs.Device.{Cursor}
use Rattle.journal.specs.Image.{table_in}
use Rattle.journal.specs.Memory.{Copied, copied_to, cursor_of, places_of}
use Rattle.journal.proofs.Tables.{length_keeping, keeping_start, keeping_le}
use Rattle.journal.proofs.Copies.{none-copied, kept-copied, none-kept}
use Rattle.journal.proofs.journal.Journal.copy.Goals as goal
use Rattle.journal.proofs.journal.Journal.copy.Goals.{in-Some, in_default}

pub loop-entry-init : goal.loop-entry-init
loop-entry-init c =
    subst (λ (xs : List Lease). Copied (cursor_of c.args.self.now) (vec_items c.args.self.now.device) (places_of c.args.self.now) xs (vec_items c.args.self.now.device) (places_of c.args.self.now) (cursor_of c.args.self.now))
    (sym (keeping_start c.args.clock (table_in c.args.table.now)))
    (none-copied (cursor_of c.args.self.now) (vec_items c.args.self.now.device) (places_of c.args.self.now) c.requires.fresh)

pub write-requires : goal.write-requires
write-requires c =
    let t : Table = table_in c.args.table.now in
    let i : ℕ = c.loop-entry.entry-index in
    let e : cursor_of c.loop-entry.self ≡ copied_to (cursor_of c.args.self.now) (length (keeping c.args.clock t i)) = c.loop-entry.invariant.cursor in
    let n : (cursor_of c.loop-entry.self).count ≡ length (keeping c.args.clock t i) = ap (λ (x : Cursor). x.count) e in
    let f : (cursor_of c.loop-entry.self).first ≡ (cursor_of c.args.self.now).first = ap (λ (x : Cursor). x.first) e in
    let l : length (keeping c.args.clock t i) ≤ i = length_keeping c.args.clock t i in
    let m : length (keeping c.args.clock t i) ≤ length (keeping c.args.clock t (length c.args.table.now)) = keeping_le c.args.clock t i (length c.args.table.now) (omega arith) in
    record { room = omega (arith, c.requires.few); early = omega (arith, c.requires.early) }

pub loop-entry-preserved : goal.loop-entry-preserved
loop-entry-preserved c =
    let j : Journal = c.args.self.now in
    let t : Table = table_in c.args.table.now in
    let i : ℕ = c.loop-entry.entry-index in
    let Goes : Journal → Type 0 = λ k. Copied (cursor_of j) (vec_items j.device) (places_of j) (keeping c.args.clock t (i + 1)) (vec_items k.device) (places_of k) (cursor_of k) in
    elim c.match-kept.branch [
      | in-Some w ↦
          subst Goes (sym w.self-is)
          (kept-copied (cursor_of j) (vec_items j.device) (places_of j) c.requires.above c.args.clock t i w.in-Some.lease (vec_items c.loop-entry.self.device) (places_of c.loop-entry.self) (cursor_of c.loop-entry.self)
          (vec_items w.write.new.self.device) (places_of w.write.new.self) (cursor_of w.write.new.self) (sym c.kept.ensures ∙ w.in-Some.is) c.loop-entry.invariant w.write.ensures.legible w.write.ensures.bytes w.write.ensures.device w.write.ensures.cursor)
      | in_default w ↦
          subst Goes (sym w.self-is)
          (none-kept (cursor_of j) (vec_items j.device) (places_of j) c.requires.above c.args.clock t i (vec_items c.loop-entry.self.device) (places_of c.loop-entry.self) (cursor_of c.loop-entry.self) (sym c.kept.ensures ∙ w.in_default.is) c.loop-entry.invariant)
    ]
