use Rattle.std.proofs.Common.{◌≡◌, ℕ, Bool, not, ◌&&◌, eqb, List, Option, vec_items, sym, ap, ◌∙◌, rules, tests, arith}
use Rattle.std.specs.List.{enumerate_from, find}
use Rattle.std.specs.Option.{option_map}
use Rattle.std.proofs.lemmas.Iterator.{YieldsList-from_slice}
use Rattle.std.proofs.lemmas.Iterator.Consumers.{YieldsList-from_enumerate}
use Rattle.std.proofs.lemmas.Iterator.Search.{find_from_yields_List}
use Rattle.client.specs.declared.client.Client as code
use Rattle.client.specs.Client as client
use Rattle.client.specs.Of.{client_of}
use Rattle.client.specs.State.{in_use}
use Rattle.system.specs.Report.{rival, uses_it}
use Rattle.replay.specs.Parties.{parties_of}
use Rattle.replay.proofs.Places.{client-read}
use Rattle.replay.proofs.Scans.{found_placed, place_of_found}
use Rattle.replay.proofs.parties.Parties.rival.Goals as goal

pub returns-clause-value : goal.returns-clause-value
returns-clause-value c =
    let cs = vec_items c.args.self.now.clients in
    let place = c.args.place in
    let passes : ℕ × code.Client → Bool = λ p. not (eqb p.0 place) && uses_it c.args.address (in_use (client_of p.1).state) in
    let fst : Option (ℕ × code.Client) → Option ℕ = λ o. option_map (λ q. q.0) o in
    let asked : c.map.result ≡ option_map (λ q. q.0) c.find.result = search rules in
    asked ∙ place_of_found (λ x. x.now) c.find.result
    ∙ ap fst (find_from_yields_List passes _ _ c.find.result c.find.ensures.ran (YieldsList-from_enumerate (YieldsList-from_slice c.deref.result.now cc) cc) (λ x b q k. search (rules, tests)))
    ∙ ap (λ (l : List code.Client). fst (find passes (enumerate_from 0 l))) c.deref.ensures.value
    ∙ found_placed passes (rival (parties_of c.args.self.now) place c.args.address) cs 65 (omega (arith, c.args.self.now.clients.ok.0, c.args.self.now.sized))
    (λ i x h r. ap (λ (k : client.Client). not (eqb i place) && uses_it c.args.address (in_use k.state)) (sym (client-read cs i x h r)))
