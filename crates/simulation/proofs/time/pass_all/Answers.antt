use Rattle.std.proofs.Common.{◌≡◌, ℕ, ◌+◌, ◌<◌, List, length, get_or, sym, ap, ◌∙◌, subst, arith}
use Rattle.lease.specs.World as world
use Rattle.lease.specs.Run.{client_passes}
use Rattle.lease.specs.Stands.{client_of}
use Rattle.lease.specs.declared.holder.Holder.{Holder}
use Rattle.simulation.specs.Play.{clients_of}
use Rattle.simulation.proofs.Parties.{client-at, GoneOn, goes_on}
use Rattle.simulation.proofs.time.pass_all.Goals as goal
use Rattle.simulation.proofs.time.pass_all.Goals.{in-Ok, in_default}

pub loop-i-preserved : goal.loop-i-preserved
loop-i-preserved c =
    let h : c.loop-i.i < length c.loop-i.clients = omega (arith, c.loop-i.auto.clients) in
    let x : Holder = get_or c.loop-i.clients c.loop-i.i c.index-clients-i.result in
    let e : clients_of c.loop-i.clients c.loop-i.i ≡ client_of x = client-at c.loop-i.clients c.loop-i.i c.index-clients-i.result h in
    let same : clients_of c.args.clients.now c.loop-i.i ≡ client_of x = sym (c.loop-i.invariant.1 c.loop-i.i (omega arith)) ∙ e in
    elim c.match-pass.branch [
      | in-Ok w ↦
          subst (λ (l : List Holder). GoneOn c.args.ticks.now (c.loop-i.i + 1) c.args.clients.now l) (sym w.clients-is)
          (goes_on c.args.ticks.now c.loop-i.i c.args.clients.now c.loop-i.clients x w.in-Ok.later h e
          (w.in-Ok.ensures ∙ ap (λ (n : ℕ). client_passes n (client_of x)) c.at.ensures) c.loop-i.invariant)
      | in_default w ↦
          let p : _ = w.in_default.ensures in
          absurd (omega (
            arith,
            p.2,
            c.at.ensures,
            ap (λ (z : world.Client). z.clock) same,
            c.requires c.loop-i.i (omega (arith, c.loop-i.auto.clients)) (ap (λ (z : world.Client). z.up) same ∙ p.0),
          ))
    ]
