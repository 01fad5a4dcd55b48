use Rattle.std.proofs.Common.{rules, tests, eqb, ◌∙◌}
use Rattle.std.proofs.lemmas.Iterator.{YieldsList-from_slice}
use Rattle.std.proofs.lemmas.Iterator.Search.{all_from_yields_List}
use Rattle.journal.proofs.Scans.{zeros_list}
use Rattle.journal.proofs.scan.is_zero.Goals as goal

pub returns : goal.returns
returns c = all_from_yields_List (λ b. eqb b 0) _ _ _ c.all.ensures.ran (YieldsList-from_slice c.args.place.now (cc)) (λ x b q k. search (rules, tests)) ∙ zeros_list c.args.place.now
