use Rattle.std.proofs.Common.{ℕ, List, [], Bor, eqb, get_or, ap, ◌∙◌, rules, tests}
use Rattle.std.proofs.lemmas.Iterator.Consumers.{nth_from_yields_List}
use Rattle.std.proofs.lemmas.Iterator.Splits.{YieldsList-from_slice_split}
use Rattle.text.specs.Pieces.{lines, words, newline}
use Rattle.text.proofs.Cutting.{cut, cut_at, item_or, shown}
use Rattle.text.proofs.report.word_of.Goals as goal

pub returns : goal.returns
returns c =
    let text = c.args.text.now in
    let n = c.saturating_sub.result in
    ap (λ (b : Bor (List ℕ)). b.now) c.unwrap_or.ensures
    ∙ (shown c.word_at.result _
    ∙ (c.word_at.ensures.value
    ∙ ap (λ (l : List ℕ). get_or (words l) c.args.place []) (ap (λ (b : Bor (List ℕ)). b.now) c.unwrap_or-line.ensures
    ∙ (item_or c.nth.result _ (cut newline text) n (nth_from_yields_List c.nth.result _ n c.nth.ensures.ran (YieldsList-from_slice_split _ (λ b. eqb b newline) text c.split-lines.ensures.rest c.split-lines.ensures.done c.split-lines.ensures.closure (λ x b q k. search (rules, tests))))
    ∙ (cut_at newline text n ∙ ap (λ (k : ℕ). get_or (lines text) k []) c.saturating_sub.ensures)))))
