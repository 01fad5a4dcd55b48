-- A text's lines and a line's words.
-- Assumes nothing: what is behind the last newline is a line too, unless it is empty.
use Rattle.std.specs.Prelude.{ℕ, cond, List, [], ◌∷◌, ◌==◌}

abbrev pub onto : ℕ → List (List ℕ) → List (List ℕ)
onto b [] = (b ∷ []) ∷ []
onto b (p ∷ ps) = (b ∷ p) ∷ ps

-- what stands between the bytes that end a piece
abbrev pub pieces : ℕ → List ℕ → List (List ℕ)
pieces end [] = []
pieces end (b ∷ bs) = cond (b == end) ([] ∷ pieces end bs) (onto b (pieces end bs))

abbrev pub before : ℕ → List ℕ → List ℕ
before end [] = []
before end (b ∷ bs) = cond (b == end) [] (b ∷ before end bs)

abbrev pub filled : List (List ℕ) → List (List ℕ)
filled [] = []
filled ([] ∷ ps) = filled ps
filled ((b ∷ bs) ∷ ps) = (b ∷ bs) ∷ filled ps

abbrev pub newline : ℕ
newline = 10

abbrev pub space : ℕ
space = 32

abbrev pub comment : ℕ
comment = 35

abbrev pub lines : List ℕ → List (List ℕ)
lines text = pieces newline text

abbrev pub spoken : List ℕ → List (List ℕ)
spoken text = filled (pieces space text)

abbrev pub words : List ℕ → List (List ℕ)
words line = spoken (before comment line)
