use Rattle.std.proofs.Common.{ℕ, Bool, not, ◌&&◌, eqb, List, get_or, Option, vec_items, sym, ap, ◌∙◌, rules, tests, arith}
use Rattle.std.specs.List.{enumerate_from, list_any}
use Rattle.std.proofs.lemmas.Iterator.{YieldsList-from_slice}
use Rattle.std.proofs.lemmas.Iterator.Consumers.{YieldsList-from_enumerate}
use Rattle.std.proofs.lemmas.Iterator.Search.{any_from_yields_List}
use Rattle.std.proofs.lemmas.List.{get_or-map}
use Rattle.client.specs.declared.client.Client as code
use Rattle.client.specs.Client as client
use Rattle.client.specs.Of.{client_of}
use Rattle.system.specs.Watch.{clash, same_number}
use Rattle.replay.specs.Parties.{clients_of, parties_of}
use Rattle.replay.proofs.Scans.{any_placed}
use Rattle.replay.proofs.parties.Parties.clashes.Goals as goal

pub returns : goal.returns
returns c =
    let cs = vec_items c.args.self.now.clients in
    let place = c.args.place in
    let passes : ℕ × code.Client → Bool = λ p. not (eqb p.0 place) && same_number c.own-own.result (client_of p.1).state.own in
    any_from_yields_List passes _ _ c.any.result c.any.ensures.ran (YieldsList-from_enumerate (YieldsList-from_slice c.deref.result.now cc) cc) (λ x b q k. search (rules, tests))
    ∙ ap (λ (l : List code.Client). list_any passes (enumerate_from 0 l)) c.deref.ensures.value
    ∙ any_placed passes (clash (parties_of c.args.self.now) place) cs c.client.result.now 65 (omega (arith, c.args.self.now.clients.ok.0, c.args.self.now.sized))
    (λ i h.
    ap (λ (o : Option ℕ). not (eqb i place) && same_number o (client_of (get_or cs i c.client.result.now)).state.own) (c.own-own.ensures ∙ ap (λ (k : client.Client). k.state.own) c.client.ensures)
    ∙ ap (λ (k : client.Client). not (eqb i place) && same_number (clients_of cs place).state.own k.state.own)
    (sym (get_or-map client_of cs i c.client.result.now client.fresh (omega (arith, h, c.args.self.now.clients.ok.0, c.args.self.now.sized)))))
