use Rattle.std.proofs.Common.{◌≡◌, ◌++◌, append-nil, get_or, vec_items, rules}
use Rattle.server.specs.declared.effect.Effect.TheVariants.{Persist}
use Rattle.system.specs.Parties.{sends}
use Rattle.replay.specs.Parties.{sent}
use Rattle.replay.proofs.Passes.{sends_none, sends_more, pass_turn, pass_end}
use Rattle.replay.proofs.parties_steps.put_sent.Goals as goal
use Rattle.replay.proofs.parties_steps.put_sent.Goals.{in-Send+in_ok-push, in_default}

pub loop-effect-preserved : goal.loop-effect-preserved
loop-effect-preserved c =
    let e : vec_items c.match-effect.said ≡ vec_items c.loop-effect.said ++ sent (get_or c.args.effects.now c.loop-effect.effect-index (Persist (record { first = 0; count = 0 }))) =
    elim c.match-effect.branch [ in-Send+in_ok-push w ↦ search rules | in_default w ↦ rw w.in_default.is (search (rules, append-nil)) ] in
    pass_turn sends sent sends_none sends_more c.args.effects.now c.loop-effect.effect-index (Persist (record { first = 0; count = 0 })) (vec_items c.loop-effect.said) (vec_items c.match-effect.said) _ c.loop-effect-test.true c.loop-effect.invariant e

pub returns : goal.returns
returns c = pass_end sends sent sends_none sends_more c.args.effects.now c.loop-effect.effect-index (vec_items c.loop-effect.said) _ c.loop-effect-test.false c.loop-effect.invariant
