-- Messages in bytes, one after the other, each with its length before it.
-- Assumes nothing.
use Rattle.std.specs.Prelude.{◌≡◌, ℕ, ◌<◌, List, ◌++◌, length, take}
use Rattle.std.specs.List.{flat_map}
use Rattle.wire.specs.Message.{encoded}
use Rattle.wire.specs.Stream.{framed}
use Rattle.wire.specs.declared.message.Message.{Message}

abbrev pub written : Message → List ℕ
written m = framed (encoded m)

abbrev pub spoken : List Message → List ℕ
spoken ms = flat_map written ms

-- of messages that were to be put out the first ones were, and not all
abbrev pub SaidInPart : List Message → (before after : List ℕ) → Type 0
SaidInPart ms bs cs = (n : ℕ) × (n < length ms) × (cs ≡ bs ++ spoken (take n ms))
