use Rattle.std.proofs.Common.{◌≡◌, Some, None, Option, MatchOption, ap, ◌∙◌}
use Rattle.wire.specs.declared.message.Message.{Message}
use Rattle.wire.specs.Read.{read}
use Rattle.text.specs.declared.sentence.Spoken.{Spoken}
use Rattle.text.specs.declared.sentence.Spoken.TheVariants.{Raw}
use Rattle.text.specs.Sentence.{said, said_if}
use Rattle.text.proofs.sentence.how_said.Goals as goal

by_cases : (r : Option Message) (s : Spoken) → MatchOption r (s ≡ Raw) (λ m. s ≡ said m) → s ≡ said_if r
by_cases None s e = e
by_cases (Some m) s e = e

pub returns : goal.returns
unfolding read
returns c = by_cases c.read.result c.map_or.result c.map_or.ensures ∙ ap said_if c.read.ensures
