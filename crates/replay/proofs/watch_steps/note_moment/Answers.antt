use Rattle.std.proofs.Common.{List, length, vec_items, sym, refl, ap, ◌∙◌, arith}
use Rattle.client.specs.declared.client.Client.{Client}
use Rattle.replay.specs.Parties.{clients_of, parties_of, shown_by}
use Rattle.replay.specs.Watch.{leads_of, noted_by}
use Rattle.replay.proofs.Leads.{moment_noted}
use Rattle.replay.proofs.watch_steps.note_moment.Goals as goal

pub returns-then-is_up : goal.returns-then-is_up
returns-then-is_up c =
    moment_noted (parties_of c.args.parties.now) (vec_items c.args.parties.now.clients) c.clock.result.ticks c.args.leads.now c.note_clocks.new.leads refl
    (omega (arith, c.args.parties.now.clients.ok.0, c.args.parties.now.sized)) (omega arith) (omega arith) (sym c.is_up.ensures ∙ c.if-is_up.true) c.clock.ensures
    (λ k h. c.note_clocks.ensures k (omega (arith, h, ap (λ (l : List Client). length l) c.deref.ensures.value)) ∙ ap (λ (l : List Client). noted_by (shown_by (clients_of l k)) c.clock.result.ticks (leads_of c.args.leads.now k)) c.deref.ensures.value)
