use Rattle.std.proofs.Common.{◌≡◌, ℕ, suc, ◌+◌, List, [], ◌∷◌, ◌++◌, length, vec_items, sym, ap, ◌∙◌, arith}
use Rattle.lease.specs.declared.lease.Lease.{Lease}
use Rattle.journal.specs.declared.journal.Journal.{Journal}
use Rattle.journal.specs.Table.{keeping}
use Rattle.journal.specs.Device.{Side, Cursor, other}
use Rattle.journal.specs.Image.{index, table_in}
use Rattle.journal.specs.Memory.{Copied, copied_to, cursor_of, places_of}
use Rattle.journal.proofs.Copies.{one-copied}
use Rattle.journal.proofs.Appendings.{other-appended}
use Rattle.journal.proofs.journal.Journal.append_in_other.Goals as goal

pub write-requires : goal.write-requires
write-requires c =
    let e : cursor_of c.copy.new.self ≡ copied_to (cursor_of c.turn.new.self) (length (keeping c.args.clock (table_in c.args.table.now) (length c.args.table.now))) = c.copy.ensures.cursor in
    let n : (cursor_of c.copy.new.self).count ≡ length (keeping c.args.clock (table_in c.args.table.now) (length c.args.table.now)) = ap (λ (v : Cursor). v.count) e in
    let f : (cursor_of c.copy.new.self).first ≡ suc (cursor_of c.args.self.now).highest = ap (λ (v : Cursor). v.first) e ∙ ap (λ (v : Cursor). v.first) c.turn.ensures.cursor in
    record { room = omega (arith, c.count_kept-kept.ensures.value, c.count_kept-kept.ensures.bound, c.requires); early = omega (arith, c.count_kept-kept.ensures.value, c.if-self-kept.false) }

pub returns : goal.returns
returns c =
    let before : Journal = c.args.self.now in
    let turned : Journal = c.turn.new.self in
    let copied : Journal = c.copy.new.self in
    let end : Journal = c.write.new.self in
    let ks : List Lease = keeping c.args.clock (table_in c.args.table.now) (length c.args.table.now) in
    let t : cursor_of turned ≡ record { side = other (cursor_of before).side; first = suc (cursor_of before).highest; count = 0; base = length ks; highest = (cursor_of before).highest } =
    c.turn.ensures.cursor
    ∙ ap (λ (b : ℕ). record { side = other (cursor_of before).side; first = suc (cursor_of before).highest; count = 0; base = b; highest = (cursor_of before).highest }) c.count_kept-kept.ensures.value in
    let above : (cursor_of turned).first ≡ suc (cursor_of turned).highest = ap (λ (v : Cursor). v.first) t ∙ sym (ap (λ (v : Cursor). suc v.highest) t) in
    let y : Copied (cursor_of turned) (vec_items turned.device) (places_of turned) (ks ++ (c.args.lease ∷ [])) (vec_items end.device) (places_of end) (cursor_of end) =
    one-copied (cursor_of turned) (vec_items turned.device) (places_of turned) above ks c.args.lease (vec_items copied.device) (places_of copied) (cursor_of copied) (vec_items end.device) (places_of end) (cursor_of end)
    c.copy.ensures c.write.ensures.legible c.write.ensures.bytes c.write.ensures.device c.write.ensures.cursor in
    let side : (cursor_of end).side ≡ other (cursor_of before).side = ap (λ (v : Cursor). v.side) y.cursor ∙ ap (λ (v : Cursor). v.side) t in
    other-appended before end c.args.lease _ (length c.args.table.now) c.args.clock (table_in c.args.table.now) turned c.turn.ensures.bytes t y c.write.ensures.found
    (c.place.ensures.value ∙ ap (λ (s : Side). index s 0) side)
    (ap (λ (k : ℕ). k + 1) c.count_kept-kept.ensures.value)
    (omega (arith, c.count_kept-kept.ensures.value, c.if-self-kept.false))
    (omega (arith, c.count_kept-kept.ensures.value, c.count_kept-kept.ensures.bound, c.requires))
