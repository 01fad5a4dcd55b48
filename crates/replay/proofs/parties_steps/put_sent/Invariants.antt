use Rattle.std.proofs.Common.{◌≡◌, ◌++◌, drop, vec_items}
use Rattle.system.specs.Parties.{sends}
use Rattle.replay.proofs.parties_steps.put_sent.Given as goal

-- what is out already and what is left make the whole
abbrev pub invariant-loop-effect : goal.invariant-loop-effect
invariant-loop-effect l = vec_items l.said ++ sends (drop l.effect-index l.effects) ≡ vec_items l.initial.said ++ sends l.effects
