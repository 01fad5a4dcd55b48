use Rattle.std.proofs.Common.{ℕ, List, Bor, eqb, [], refl, ap, ◌∙◌, rules, tests}
use Rattle.std.proofs.lemmas.Iterator.Consumers.{nth_from_yields_List}
use Rattle.std.proofs.lemmas.Iterator.Splits.{YieldsList-from_slice_split}
use Rattle.text.specs.Pieces.{comment}
use Rattle.text.proofs.Cutting.{cut, before_cut, at_once, item_or}
use Rattle.text.proofs.piece.before_comment.Goals as goal

pub returns : goal.returns
returns c =
    let line = c.args.line.now in
    ap (λ (b : Bor (List ℕ)). b.now) c.unwrap_or.ensures
    ∙ (item_or c.next.result c.args.line (cut comment line) 0 (nth_from_yields_List c.next.result _ 0 ([], (_, refl, c.next.ensures.steps), at_once c.next.result) (YieldsList-from_slice_split _ (λ b. eqb b comment) line c.split.ensures.rest c.split.ensures.done c.split.ensures.closure (λ x b q k. search (rules, tests))))
    ∙ before_cut comment line line)
