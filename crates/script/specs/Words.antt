-- The words that say why a script has no entries.
-- Assumes nothing.
use Rattle.std.specs.Prelude.{ℕ, List, ◌++◌, codes, decimal}
use Rattle.script.specs.declared.entry.Unread.{Unread}
use Rattle.script.specs.declared.entry.Unread.TheVariants.{Fault, NoMemory}

abbrev pub unread_words : Unread → List ℕ
unread_words (Fault n) = codes "fault 1 at byte " ++ decimal n
unread_words NoMemory = codes "out of memory"
