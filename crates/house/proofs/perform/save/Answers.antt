use Rattle.std.proofs.Common.{◌≡◌, ℕ, List, [], ◌∷◌, subst, arith}
use Rattle.std.proofs.lemmas.Result.{err_from_is_err_and}
use Rattle.house.specs.Acts.{Wrote, Synced, Grows, Partly, bytes_in}
use Rattle.house.proofs.Doing.{does-next, fails-first, unbegun}
use Rattle.house.proofs.perform.save.Goals as goal

pub returns-in_err-bytes : goal.returns-in_err-bytes
returns-in_err-bytes g c =
    let p = err_from_is_err_and c.from_residual.result c.from_residual.ensures.1 in
    rw p.1 (unbegun g.O.Outside.did c.args.outside.now (Wrote c.args.place (bytes_in c.args.server.now c.args.place)) (Synced ∷ []))

pub returns-in_err-write : goal.returns-in_err-write
returns-in_err-write g c =
    let b : List ℕ = bytes_in c.args.server.now c.args.place in
    let e : c.in_ok-bytes.bytes ≡ b = grind arith in
    let p = err_from_is_err_and c.from_residual-in_err-write.result c.from_residual-in_err-write.ensures.1 in
    rw p.1 (fails-first g.O.Outside.did c.args.outside.now c.write.new.self (Wrote c.args.place b ∷ []) (Synced ∷ [])
    (subst (λ (x : List ℕ). Partly g.O.Outside.did c.args.outside.now (Wrote c.args.place x ∷ []) c.write.new.self) e c.in_err-write.ensures))

pub returns : goal.returns
returns g c =
    let b : List ℕ = bytes_in c.args.server.now c.args.place in
    let e : c.in_ok-bytes.bytes ≡ b = grind arith in
    does-next g.O.Outside.did c.args.outside.now c.write.new.self c.sync.new.self (Wrote c.args.place b ∷ []) (Synced ∷ []) c.sync.result
    (subst (λ (x : List ℕ). Grows g.O.Outside.did c.args.outside.now (Wrote c.args.place x ∷ []) c.write.new.self) e c.in_ok-write.ensures) c.sync.ensures
