use Rattle.std.proofs.Common.{None, ◌∙◌, rules, tests, arith}
use Rattle.std.proofs.lemmas.Iterator.{YieldsList-from_slice}
use Rattle.std.proofs.lemmas.Iterator.Search.{any_from_yields_List}
use Rattle.std.specs.Option.{option_map}
use Rattle.system.specs.Watch.{wide}
use Rattle.replay.specs.Lead.{lead_of}
use Rattle.replay.proofs.Scans.{any_listed}
use Rattle.replay.proofs.watch_steps.is_any_wide.Goals as goal

pub returns : goal.returns
returns c =
    any_from_yields_List (λ known. wide c.args.skew (option_map lead_of known)) _ _ c.any.result c.any.ensures.ran (YieldsList-from_slice c.args.leads.now cc) (λ x b q k. search (rules, tests))
    ∙ any_listed (λ known. wide c.args.skew (option_map lead_of known)) c.args.leads.now None 65 (omega arith)
