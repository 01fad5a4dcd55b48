use Rattle.std.proofs.Common.{◌≡◌, ℕ, List, Bor, eqb, [], Option, ap, ◌∙◌, rules, tests}
use Rattle.std.proofs.lemmas.Iterator.Consumers.{nth_from_yields_List, YieldsList-at, YieldsList-from_filter}
use Rattle.std.proofs.lemmas.Iterator.Splits.{YieldsList-from_slice_split}
use Rattle.std.proofs.lemmas.Option.{unwrap_or-slice_get}
use Rattle.std.specs.List.{slice_get}
use Rattle.std.specs.Option.{unwrap_or, option_map}
use Rattle.text.specs.Pieces.{pieces, before, filled, space, comment, words}
use Rattle.text.proofs.Cutting.{full, filter_cut, is_word}
use Rattle.text.proofs.piece.word_at.Goals as goal

pub returns : goal.returns
returns c =
    let said = c.before_comment.result.now in
    let place = c.args.place in
    let at : option_map (λ (x : Bor (List ℕ)). x.now) c.nth.result ≡ slice_get (words c.args.line.now) c.args.place =
    nth_from_yields_List c.nth.result _ place c.nth.ensures.ran (YieldsList-from_filter _ full (YieldsList-at c.filter.ensures.source (YieldsList-from_slice_split _ (λ b. eqb b space) said c.split.ensures.rest c.split.ensures.done c.split.ensures.closure (λ x b q k. search (rules, tests)))) c.filter.ensures.closure (λ x b q k. search (rules, tests)))
    ∙ ap (λ (l : List (List ℕ)). slice_get l place) (filter_cut space said ∙ ap (λ (l : List ℕ). filled (pieces space l)) c.before_comment.ensures)
    in
    record {
      value = ap (λ (o : Option (List ℕ)). unwrap_or o []) at ∙ unwrap_or-slice_get (words c.args.line.now) place [];
      found = is_word c.nth.result (pieces space (before comment c.args.line.now)) place at;
    }
