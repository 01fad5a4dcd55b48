-- The words that say why a script is not played to its end, and why a message is brought to nobody.
-- Assumes nothing.
use Rattle.std.specs.Prelude.{ℕ, List, ◌++◌, codes, decimal}
use Rattle.replay.specs.declared.player.Stopped.{Stopped}
use Rattle.replay.specs.declared.player.Stopped.TheVariants as stopped
use Rattle.replay.specs.declared.simulation.Unheard.{Unheard}
use Rattle.replay.specs.declared.simulation.Unheard.TheVariants as unheard

abbrev pub stopped_words : Stopped → List ℕ
stopped_words (stopped.Script n) = codes "script: fault 1 at byte " ++ decimal n
stopped_words stopped.NoMemory = codes "out of memory"

abbrev pub unheard_words : Unheard → List ℕ
unheard_words unheard.NoSuchParty = codes "no such party"
unheard_words unheard.NoMemory = codes "out of memory"
