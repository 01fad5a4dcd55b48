-- The text of an entry: a line of words with a space between each two.
-- Assumes nothing.
use Rattle.std.specs.Prelude.{ℕ, cond, List, [], ◌∷◌, ◌++◌, length, codes, decimal, map, take, ◌==◌}
use Rattle.text.specs.declared.form.Form.{Form}
use Rattle.text.specs.declared.form.Form.TheVariants.{Script, Stream}
use Rattle.text.specs.declared.sentence.Sentence.{Sentence}
use Rattle.text.specs.declared.sentence.Spoken.{Spoken}
use Rattle.text.specs.declared.sentence.Spoken.TheVariants.{Tick, Raw, Say}
use Rattle.text.specs.Hex.{written}
use Rattle.text.specs.Kind.{name, fields}
use Rattle.text.specs.Pieces.{space, newline}
use Rattle.text.specs.Speech.{Words}

abbrev pub trailed : Words → List ℕ
trailed [] = []
trailed (w ∷ ws) = space ∷ w ++ trailed ws

abbrev pub spaced : Words → List ℕ
spaced [] = []
spaced (w ∷ ws) = w ++ trailed ws

-- the party and the space behind it, which a stream leaves out
abbrev pub lead_text : Form → ℕ → List ℕ
lead_text Stream who = []
lead_text Script who = cond (who == 0) (codes "house ") (codes "box " ++ (decimal who ++ space ∷ []))

abbrev pub line_text : Form → ℕ → Words → List ℕ
line_text f who ws = lead_text f who ++ (spaced ws ++ newline ∷ [])

-- the kind's word, and the numbers that it has
abbrev pub said_words : Sentence → Words
said_words s = name s.kind ∷ map decimal (take (length (fields s.kind)) s.figures)

-- one tick has no number
abbrev pub tick_words : ℕ → Words
tick_words n = codes "tick" ∷ cond (n == 1) [] (decimal n ∷ [])

abbrev pub raw_words : List ℕ → Words
raw_words m = codes "bytes" ∷ cond (length m == 0) [] (written m ∷ [])

abbrev pub body_words : Spoken → List ℕ → Words
body_words Tick m = tick_words 1
body_words Raw m = raw_words m
body_words (Say s) m = said_words s
