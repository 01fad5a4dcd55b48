use Rattle.std.proofs.Common.{◌≡◌, ℕ, ◌+◌, ◌<◌, ◌≤◌, List, length, get_or, None, vec_items, sym, ap, ◌∙◌, subst, arith}
use Rattle.std.specs.List.{between}
use Rattle.journal.specs.Device.{leases}
use Rattle.journal.specs.Image.{Recovered, cursor_from, device_of}
use Rattle.journal.proofs.Restores.{within_row, restored, rereads}
use Rattle.journal.proofs.journal.Journal.recover.Goals as goal

read : (c : goal.After-count) → Recovered (device_of (vec_items c.args.self.now.device)) c.read-self.result
read c = subst (λ (v : List (List ℕ)). Recovered (device_of v) c.read-self.result) c.deref.ensures.value c.read-self.ensures

within : (c : goal.After-count) → c.place-start.result + c.count.result ≤ 8192
within c = within_row _ _ c.place-start.result c.count.result (read c) c.place-start.ensures.value c.count.ensures

pub overflow_add-start : goal.overflow_add-start
overflow_add-start c = let w : c.place-start.result + c.count.result ≤ 8192 = within c in omega arith

pub slice_bounds-restore-end : goal.slice_bounds-restore-end
slice_bounds-restore-end c = let w : c.place-start.result + c.count.result ≤ 8192 = within c in omega (arith, c.deref-2.ensures.len, c.args.self.now.sized)

table : (c : goal.After-result-1) (a : ℕ) → a < length c.restore.new.table → get_or c.restore.new.table a None ≡ leases 4096 (device_of (vec_items c.args.self.now.device)) a
table c a l =
    let bs : List (List ℕ) = vec_items c.args.self.now.device in
    c.restore.ensures a l
    ∙ restored bs _ c.read-self.result c.place-start.result c.count.result (subst (λ (v : List (List ℕ)). Recovered (device_of v) c.read-self.result) c.deref.ensures.value c.read-self.ensures) c.place-start.ensures.value c.count.ensures
    (ap (λ (v : List (List ℕ)). between c.place-start.result (c.place-start.result + c.count.result) v) c.deref-2.ensures.value) (sym c.args.self.now.device.ok.0 ∙ c.args.self.now.sized) a

pub returns-clause-table : goal.returns-clause-table
returns-clause-table c = table c

pub returns-clause-ready : goal.returns-clause-ready
returns-clause-ready c =
    let r : Recovered (device_of (vec_items c.args.self.now.device)) c.read-self.result = subst (λ (v : List (List ℕ)). Recovered (device_of v) c.read-self.result) c.deref.ensures.value c.read-self.ensures in
    rereads (device_of (vec_items c.args.self.now.device)) (cursor_from c.read-self.result) c.restore.new.table r.cursor (table c)
