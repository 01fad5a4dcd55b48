use Rattle.std.proofs.Common.{ℕ, ◌+◌, ◌-◌, subst, arith}
use Rattle.std.proofs.lemmas.Result.{err_from_is_err_and}
use Rattle.house.specs.Acts.{Bytes, Grows, Partly, bytes_in, saved, saves}
use Rattle.house.proofs.Doing.{saves-more, saves-none, saves_stop, saves_unbegun}
use Rattle.house.proofs.perform.save_all.Goals as goal

pub returns-in_err-end : goal.returns-in_err-end
returns-in_err-end g c =
    let p = err_from_is_err_and c.from_residual.result c.from_residual.ensures.1 in
    rw p.1 (saves_unbegun g.O.Outside.did c.args.outside.now (bytes_in c.args.server.now) c.args.written.first c.args.written.count (grind arith))

pub loop-place-init : goal.loop-place-init
loop-place-init g c =
    let p : Bytes = bytes_in c.args.server.now in
    let f : ℕ = c.args.written.first in
    subst (λ (i : ℕ). Grows g.O.Outside.did c.args.outside.now (saves p f i) c.args.outside.now) {x = 0} {y = f - f} (omega arith) (saves-none g.O.Outside.did c.args.outside.now p f)

pub returns-in_err-save : goal.returns-in_err-save
returns-in_err-save g c =
    let p : Bytes = bytes_in c.args.server.now in
    let f : ℕ = c.args.written.first in
    let e = err_from_is_err_and c.from_residual-in_err-save.result c.from_residual-in_err-save.ensures.1 in
    rw e.1 (saves_stop g.O.Outside.did c.args.outside.now c.loop-place.outside c.save.new.outside p f (c.loop-place.place - f) c.args.written.count (grind arith) c.loop-place.invariant
    (subst (λ (k : ℕ). Partly g.O.Outside.did c.loop-place.outside (saved p k) c.save.new.outside) {x = c.loop-place.place} {y = f + (c.loop-place.place - f)} (omega arith) c.in_err-save.ensures))

pub loop-place-preserved : goal.loop-place-preserved
loop-place-preserved g c =
    let p : Bytes = bytes_in c.args.server.now in
    let f : ℕ = c.args.written.first in
    subst (λ (i : ℕ). Grows g.O.Outside.did c.args.outside.now (saves p f i) c.save.new.outside) {x = (c.loop-place.place - f) + 1} {y = (c.loop-place.place + 1) - f} (omega arith)
    (saves-more g.O.Outside.did c.args.outside.now c.loop-place.outside c.save.new.outside p f (c.loop-place.place - f) c.loop-place.invariant
    (subst (λ (k : ℕ). Grows g.O.Outside.did c.loop-place.outside (saved p k) c.save.new.outside) {x = c.loop-place.place} {y = f + (c.loop-place.place - f)} (omega arith) c.in_ok-save.ensures))
