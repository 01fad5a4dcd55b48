use Rattle.std.proofs.Common.{◌≡◌, ℕ, ◌+◌, List, [], length, drop, Ok, Err, Result, MatchResult, Vec, Global, vec_items, sym, ap, ◌∙◌, subst, arith, rules, tests}
use Rattle.std.proofs.lemmas.Iterator.Consumers.{YieldsList-turn, YieldsList-end}
use Rattle.std.proofs.lemmas.List.{append-nil, at_drop_all, length_push}
use Rattle.std.proofs.lemmas.List.FromFn.{length-enumerate_from}
use Rattle.text.specs.declared.fault.ReadFault.{ReadFault}
use Rattle.text.specs.declared.fault.ReadFault.TheVariants.{Line}
use Rattle.text.specs.Line.{bytes_of}
use Rattle.text.specs.Pieces.{newline, words}
use Rattle.text.specs.Read.{Refuses, read_text, reading}
use Rattle.text.proofs.Cutting.{cut}
use Rattle.text.proofs.Failing.{refused_by, kept_of}
use Rattle.text.proofs.Readings.{cut_read, line_read, line_refused, lines_of, turn}
use Rattle.text.proofs.reading.read_text.Goals as goal

pub returns-in_err-said : goal.returns-in_err-said
returns-in_err-said c =
    let n = length c.loop-i.yielded in
    let text = c.args.text.now in
    let line = c.in-Some.line.now in
    let seen = YieldsList-turn (lines_of _ text c.into_iter-i-iterator.ensures.into_iter_gives c.enumerate-i-items.ensures.source c.enumerate-i-items.ensures.count c.split.ensures.rest c.split.ensures.done c.split.ensures.closure (λ x b q k. search (rules, tests))) c.loop-i.yielded _ c.loop-i.yielded_by _ _ (c.in-Some.i, c.in-Some.line) c.in-Some.is c.next.ensures.steps in
    let at = turn (cut newline text) n c.in-Some.i line seen.0 seen.1 in
    let (m, is, post) = refused_by c.read_line.result c.in_err-said.field-0.0 _ c.in_err-said.ensures.cases in
    let fault : c.in_err-said.field-0.0 ≡ Line (c.in-Some.i + 1) m = search (rules, post) in
    let same : c.from_residual.result ≡ Err c.in_err-said.field-0.0 = search rules in
    let refused : read_text c.args.form c.args.text.now ≡ Err (Line (length c.loop-i.yielded + 1) m) =
    sym (cut_read c.args.form text)
    ∙ (sym c.loop-i.invariant.2 ∙ line_refused c.args.form n (vec_items c.loop-i.out) line (drop n (cut newline text)) (drop (n + 1) (cut newline text)) m at.rest (ap (bytes_of (words line)) (sym c.read_line.ensures ∙ is)))
    in
    subst (λ (r : Result (Vec ℕ Global) ReadFault). MatchResult r (λ v. read_text c.args.form c.args.text.now ≡ Ok (vec_items v)) (λ e. Refuses e (read_text c.args.form c.args.text.now))) (sym (same ∙ ap Err (fault ∙ ap (λ (k : ℕ). Line (k + 1) m) at.number))) refused

pub loop-i-preserved-in-Continue-branch-2 : goal.loop-i-preserved-in-Continue-branch-2
loop-i-preserved-in-Continue-branch-2 c =
    let n = length c.loop-i.yielded in
    let text = c.args.text.now in
    let line = c.in-Some.line.now in
    let seen = YieldsList-turn (lines_of _ text c.into_iter-i-iterator.ensures.into_iter_gives c.enumerate-i-items.ensures.source c.enumerate-i-items.ensures.count c.split.ensures.rest c.split.ensures.done c.split.ensures.closure (λ x b q k. search (rules, tests))) c.loop-i.yielded _ c.loop-i.yielded_by _ _ (c.in-Some.i, c.in-Some.line) c.in-Some.is c.next.ensures.steps in
    let at = turn (cut newline text) n c.in-Some.i line seen.0 seen.1 in
    let was = kept_of _ c.read_line.result c.in_ok-said.said c.in_ok-said.ensures.cases in
    let step = line_read c.args.form n (vec_items c.loop-i.out) (vec_items c.append_line.new.out) line _ (drop n (cut newline text)) (drop (n + 1) (cut newline text)) at.rest (ap (bytes_of (words line)) (sym c.read_line.ensures ∙ (was ∙ ap Ok c.in-Some-said.is))) c.in_ok-append_line.ensures in (
      search rules,
      search rules,
      ap (λ (k : ℕ). reading c.args.form k (vec_items c.append_line.new.out) (Ok []) (drop k (cut newline text))) (length_push c.loop-i.yielded (c.in-Some.i, c.in-Some.line)) ∙ (sym step ∙ c.loop-i.invariant.2),
    )

pub loop-i-preserved : goal.loop-i-preserved
loop-i-preserved c =
    let n = length c.loop-i.yielded in
    let text = c.args.text.now in
    let line = c.in-Some.line.now in
    let seen = YieldsList-turn (lines_of _ text c.into_iter-i-iterator.ensures.into_iter_gives c.enumerate-i-items.ensures.source c.enumerate-i-items.ensures.count c.split.ensures.rest c.split.ensures.done c.split.ensures.closure (λ x b q k. search (rules, tests))) c.loop-i.yielded _ c.loop-i.yielded_by _ _ (c.in-Some.i, c.in-Some.line) c.in-Some.is c.next.ensures.steps in
    let at = turn (cut newline text) n c.in-Some.i line seen.0 seen.1 in
    let was = kept_of _ c.read_line.result c.in_ok-said.said c.in_ok-said.ensures.cases in
    let step = line_read c.args.form n (vec_items c.loop-i.out) (vec_items c.loop-i.out) line [] (drop n (cut newline text)) (drop (n + 1) (cut newline text)) at.rest (ap (bytes_of (words line)) (sym c.read_line.ensures ∙ (was ∙ ap Ok c.in_default.is))) (sym (append-nil (vec_items c.loop-i.out))) in (
      search rules,
      search rules,
      ap (λ (k : ℕ). reading c.args.form k (vec_items c.loop-i.out) (Ok []) (drop k (cut newline text))) (length_push c.loop-i.yielded (c.in-Some.i, c.in-Some.line)) ∙ (sym step ∙ c.loop-i.invariant.2),
    )

pub returns : goal.returns
returns c =
    let n = length c.loop-i.yielded in
    let text = c.args.text.now in
    let end = YieldsList-end (lines_of _ text c.into_iter-i-iterator.ensures.into_iter_gives c.enumerate-i-items.ensures.source c.enumerate-i-items.ensures.count c.split.ensures.rest c.split.ensures.done c.split.ensures.closure (λ x b q k. search (rules, tests))) c.loop-i.yielded _ c.loop-i.yielded_by _ _ c.in-None.is c.next.ensures.steps in
    let whole = end.1 ∙ length-enumerate_from 0 (cut newline text) in
    let last = at_drop_all (λ (l : List (List ℕ)). reading c.args.form n (vec_items c.loop-i.out) (Ok []) l) (cut newline text) n (omega (arith, whole)) in
    sym (cut_read c.args.form text) ∙ (sym c.loop-i.invariant.2 ∙ (last ∙ ap (λ (o : List ℕ). Ok o) (append-nil (vec_items c.loop-i.out))))
