use Rattle.std.proofs.lemmas.Result.{err_from_is_err_and}
use Rattle.server.specs.declared.effect.Effect.TheVariants.{Persist}
use Rattle.house.specs.Acts.{bytes_in}
use Rattle.house.proofs.Doing.{acts_stop}
use Rattle.house.proofs.perform.perform.Goals as goal

pub returns-in_err-do_one : goal.returns-in_err-do_one
returns-in_err-do_one g c =
    let p = err_from_is_err_and c.from_residual.result c.from_residual.ensures.1 in
    rw p.1 (acts_stop g.O.Outside.did c.args.outside.now c.loop-effect.outside c.do_one.new.outside (bytes_in c.args.server.now) c.args.effects.now c.loop-effect.effect-index
    (Persist (record { first = 0; count = 0 })) c.loop-effect-test.true c.loop-effect.invariant c.in_err-do_one.ensures)
