use Rattle.std.proofs.Common.{◌≡◌, ℕ, ◌+◌, ◌-◌, ◌*◌, List, [], length, get_or, vec_items, ap, ◌∙◌, arith, length-take, length-drop}
use Rattle.std.proofs.lemmas.Slice.{put_mid-paste}
use Rattle.journal.proofs.journal.Journal.store.Goals as goal

pub returns-clause-image : goal.returns-clause-image
returns-clause-image c =
    let same : c.copy_from_slice.new.self ≡ get_or (vec_items c.args.self.now.device) c.args.k [] =
    c.copy_from_slice.ensures.after ∙ c.in-Some.ensures.lookup.4 (omega arith) [] ∙ ap (λ (xs : List (List ℕ)). get_or xs c.args.k []) c.deref.ensures.value in
    put_mid-paste (c.args.k * 28) (c.args.k * 28 + 28 - c.args.k * 28) c.args.image.now c.copy_from_slice.new.self (get_or (vec_items c.args.self.now.device) c.args.k []) 28 same (omega arith)
    (let long : length c.copy_from_slice.new.self ≡ length (get_or (vec_items c.args.self.now.device) c.args.k []) = ap length same in
    omega (arith, c.copy_from_slice.ensures.len, length-take {A = ℕ}, length-drop {A = ℕ}))
