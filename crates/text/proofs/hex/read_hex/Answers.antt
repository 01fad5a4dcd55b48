use Rattle.std.proofs.Common.{ℕ, List, ◌++◌, map, vec_items, sym, ap, ◌∙◌}
use Rattle.std.proofs.lemmas.List.{append-nil, at_drop_all}
use Rattle.text.proofs.Pairs.{both, meant_chunks}
use Rattle.text.proofs.hex.read_hex.Goals as goal

pub returns : goal.returns
returns c =
    sym (append-nil (vec_items c.loop-high.out))
    ∙ (ap (λ (l : List ℕ). vec_items c.loop-high.out ++ l) (sym (at_drop_all (map both) c.as_chunks.result.0.now c.loop-high.high-index c.loop-high-test.false))
    ∙ (c.loop-high.invariant
    ∙ ap (λ (l : List ℕ). vec_items c.args.out.now ++ l) (ap (map both) c.as_chunks.ensures.front ∙ sym (meant_chunks c.args.word.now))))
