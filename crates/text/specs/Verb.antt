-- The words that say what a line's entry is.
-- Assumes nothing.
use Rattle.std.specs.Prelude.{ℕ, List, ◌∷◌, codes, map, Option}
use Rattle.std.specs.List.{find}
use Rattle.std.specs.Str.{bytes_eq}
use Rattle.text.specs.declared.kind.Verb.{Verb}
use Rattle.text.specs.declared.kind.Verb.TheVariants.{Tick, Bytes, Say}
use Rattle.text.specs.Kind as kind

abbrev pub name : Verb → List ℕ
name Tick = codes "tick"
name Bytes = codes "bytes"
name (Say k) = kind.name k

abbrev pub verbs : List Verb
verbs = Tick ∷ Bytes ∷ map Say kind.kinds

-- the verb that a word is, if it is one
abbrev pub verb_of : List ℕ → Option Verb
verb_of word = find (λ v. bytes_eq (name v) word) verbs
