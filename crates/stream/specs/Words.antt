-- The words that say why a program ended before its input did.
-- Assumes nothing: what a system error says is the system's.
use Rattle.std.specs.Prelude.{ℕ, List, Option, Some, None, codes}
use Rattle.stream.specs.declared.hearer.Stop.{Stop}
use Rattle.stream.specs.declared.hearer.Stop.TheVariants.{NoMemory, NotSaved}
use Rattle.stream.specs.declared.speaker.Halt.{Halt}
use Rattle.stream.specs.declared.speaker.Halt.TheVariants.{Stopped, Input, Output}

abbrev pub stop_words : Stop → List ℕ
stop_words NoMemory = codes "out of memory"
stop_words NotSaved = codes "a lease can't be saved"

abbrev pub halt_words : Halt → Option (List ℕ)
halt_words (Stopped stop) = Some (stop_words stop)
halt_words (Input e) = None
halt_words (Output e) = None
