use Rattle.std.proofs.Common.{rules, ◌∙◌}
use borrow.Author.Tests.{tests}
use Rattle.std.proofs.lemmas.Iterator.{YieldsList-from_slice}
use Rattle.std.proofs.lemmas.Iterator.Search.{any_from_yields_List}
use Rattle.simulation.specs.Play.{message_of, draws_it}
use Rattle.simulation.proofs.Parties.{drawn_any}
use Rattle.simulation.proofs.network.was_drawn.Goals as goal

pub returns : goal.returns
returns c =
    any_from_yields_List (λ m. draws_it c.args.nonce (message_of m)) _ _ _ c.any.ensures.ran (YieldsList-from_slice c.args.sent.now cc) (λ x b q k. search (rules, tests))
    ∙ drawn_any c.args.nonce c.args.sent.now
