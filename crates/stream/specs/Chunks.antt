-- A stream that comes in chunks: what is handed on after each, and what is kept for the next.
-- Assumes nothing.
use Rattle.std.specs.Prelude.{◌≡◌, ℕ, not, List, [], ◌∷◌, ◌++◌, length, ◌==◌}
use Rattle.std.specs.List.{flat_map}
use Rattle.wire.specs.Stream.{held}
use Rattle.stream.specs.Whole.{whole, behind}

-- the messages handed on, from kept bytes and these chunks
unfoldable pub handed : (kept : List ℕ) (chunks : List (List ℕ)) → List (List ℕ)
handed kept [] = []
handed kept (c ∷ cs) = whole (kept ++ c) ++ handed (behind (kept ++ c)) cs

-- the bytes kept then
unfoldable pub left : (kept : List ℕ) (chunks : List (List ℕ)) → List ℕ
left kept [] = kept
left kept (c ∷ cs) = left (behind (kept ++ c)) cs

abbrev pub same : List ℕ → List ℕ
same c = c

-- WHATEVER THE CHUNKS, the messages handed on are those of the whole stream
abbrev pub ChunksDeliver : Type 0
ChunksDeliver = (chunks : List (List ℕ)) → handed [] chunks ≡ (held (flat_map same chunks)).messages

-- at the end something is left just where the stream ends within a message
abbrev pub EndTells : Type 0
EndTells = (chunks : List (List ℕ)) → not (length (left [] chunks) == 0) ≡ (held (flat_map same chunks)).cut
