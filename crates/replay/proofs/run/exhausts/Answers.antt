use Rattle.std.proofs.Common.{◌∙◌, rules, tests}
use Rattle.std.proofs.lemmas.Iterator.{YieldsList-from_slice}
use Rattle.std.proofs.lemmas.Iterator.Search.{any_from_yields_List}
use Rattle.system.specs.Watch.{exhausted_by, fault_in}
use Rattle.replay.proofs.Passes.{exhausts_listed}
use Rattle.replay.proofs.run.exhausts.Goals as goal

pub returns : goal.returns
returns c =
    any_from_yields_List (λ m. exhausted_by (fault_in m)) _ _ c.any.result c.any.ensures.ran (YieldsList-from_slice c.args.said.now cc) (λ x b q k. search (rules, tests))
    ∙ exhausts_listed c.args.said.now
