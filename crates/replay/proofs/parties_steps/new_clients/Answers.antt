use Rattle.std.proofs.Common.{◌≡◌, List, [], ◌∷◌, ◌++◌, vec_items, sym, refl, subst, arith, rules}
use mathlib.Core.Path.{fun_ext}
use Rattle.client.specs.declared.client.Client as code
use Rattle.replay.proofs.Places.{AllNew, all-new-more}
use Rattle.replay.proofs.parties_steps.new_clients.Goals as goal

pub loop-init : goal.loop-init
loop-init c = (c.new-clients.ensures.len, subst (λ (l : List code.Client). AllNew l) (sym c.new-clients.ensures.items) (λ i. refl))

pub loop-preserved : goal.loop-preserved
loop-preserved c =
    let e : vec_items c.push.new.self ≡ vec_items c.loop.clients ++ c.new.result ∷ [] = search rules in
    (search rules, subst (λ (l : List code.Client). AllNew l) (sym e) (all-new-more (vec_items c.loop.clients) c.new.result c.new.ensures c.loop.invariant.1))

pub returns : goal.returns
returns c = (omega arith, fun_ext c.loop.invariant.1)
