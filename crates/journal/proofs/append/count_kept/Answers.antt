use Rattle.std.proofs.Common.{rules, tests, is_some, ◌∙◌}
use Rattle.std.proofs.lemmas.Iterator.{YieldsList-from_slice}
use Rattle.std.proofs.lemmas.Iterator.Consumers.{YieldsList-from_filter, count_from_yields_List}
use Rattle.journal.specs.Table.{kept_of}
use Rattle.journal.proofs.Tables.{length-kept}
use Rattle.journal.proofs.append.count_kept.Goals as goal

pub returns-clause-value : goal.returns-clause-value
returns-clause-value c =
    count_from_yields_List c.filter.result _ c.count.ensures.ran
    (YieldsList-from_filter _ (λ o. is_some (kept_of c.args.clock o)) (YieldsList-from_slice c.args.table.now (cc)) c.filter.ensures.closure (λ x b q k. search (rules, tests)))
    ∙ length-kept c.args.clock c.args.table.now
