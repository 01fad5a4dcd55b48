use Rattle.std.proofs.Common.{◌≡◌, ℕ, Option, Some, Bor, sym, ap, ◌∙◌, rules, tests}
use Rattle.std.specs.List.{find}
use Rattle.std.specs.Option.{option_map}
use Rattle.std.proofs.lemmas.Bool.{eqb-true}
use Rattle.std.proofs.lemmas.Iterator.{YieldsList-from_slice}
use Rattle.std.proofs.lemmas.Iterator.Search.{find_from_yields_List}
use Rattle.text.proofs.Blank.{said, none_said, comment_said}
use Rattle.text.proofs.piece.is_blank.Goals as goal

pub returns-in-None : goal.returns-in-None
returns-in-None c = λ _.
    let at : option_map (λ (x : Bor ℕ). x.now) c.find.result ≡ find said c.args.line.now =
    find_from_yields_List said _ _ _ c.find.ensures.ran (YieldsList-from_slice c.args.line.now cc) (λ x b q k. search (rules, tests))
    in none_said c.args.line.now (sym at ∙ ap (λ (o : Option (Bor ℕ)). option_map (λ (x : Bor ℕ). x.now) o) c.in-None.is)

pub returns-in-Some : goal.returns-in-Some
returns-in-Some c = λ e.
    let at : option_map (λ (x : Bor ℕ). x.now) c.find.result ≡ find said c.args.line.now =
    find_from_yields_List said _ _ _ c.find.ensures.ran (YieldsList-from_slice c.args.line.now cc) (λ x b q k. search (rules, tests))
    in
    comment_said c.args.line.now
    (sym at ∙ ap (λ (o : Option (Bor ℕ)). option_map (λ (x : Bor ℕ). x.now) o) c.in-Some.is ∙ ap (λ (b : ℕ). Some b) (eqb-true c.in-Some.byte.now 35 e))
