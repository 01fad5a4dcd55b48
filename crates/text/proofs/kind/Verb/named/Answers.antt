use Rattle.std.proofs.Common.{◌∙◌, rules, tests}
use Rattle.std.proofs.lemmas.Bool.Decides.{Decides-eqb}
use Rattle.std.proofs.lemmas.Iterator.{YieldsList-from_slice}
use Rattle.std.proofs.lemmas.Iterator.Search.{find_from_yields_List}
use Rattle.std.proofs.lemmas.Slice.Eq.{slice_eq-Decides}
use Rattle.std.specs.Str.{bytes_eq}
use Rattle.text.specs.Verb.{name, verbs}
use Rattle.text.proofs.Naming.{tested}
use Rattle.text.proofs.kind.Verb.named.Goals as goal

pub returns : goal.returns
returns c =
    c.copied.ensures
    ∙ find_from_yields_List (λ v. bytes_eq (name v) c.args.word.now) _ _ _ c.find.ensures.ran (YieldsList-from_slice verbs cc) (λ x b q k. search (rules, tests, tested, slice_eq-Decides, Decides-eqb))
