-- The whole messages that bytes begin with, what stands behind them, and who heard them.
-- Assumes nothing.
use Rattle.std.specs.Prelude.{◌≡◌, ℕ, ◌<◌, ◌⊎◌, List, [], length, take, drop, Ok, Err, Result, slice_index_or}
use Rattle.std.specs.List.{flat_map}
use Rattle.wire.specs.Stream.{framed, held}
use Rattle.stream.specs.declared.hearer.Stop.{Stop}
use Rattle.stream.specs.declared.hearer.Stop.TheVariants.{NoMemory}

abbrev pub whole : List ℕ → List (List ℕ)
whole s = (held s).messages

-- behind the whole messages
abbrev pub behind : List ℕ → List ℕ
behind s = drop (length (flat_map framed (whole s))) s

-- all were heard, and so many bytes stand behind them
abbrev pub Delivers : {S : Type 0} → (S → List (List ℕ) → S → Type 0) → List ℕ → S → ℕ → S → Type 0
Delivers went s a n b = went a (whole s) b × (n ≡ length (behind s))

-- the first so many were heard, and the next could not be
pub record Fails {S : Type 0} (went : S → List (List ℕ) → S → Type 0) (stopped : S → List ℕ → S → Type 0) (s : List ℕ) (a : S) (c : S) : Type 0 where
  pub count : ℕ
  pub some : count < length (whole s)
  pub between : S
  pub heard : went a (take count (whole s)) between
  pub failed : stopped between (slice_index_or (whole s) count []) c

-- all that these bytes hold was handed on and the rest is kept; or a message could not be heard; or there was no memory, and nothing was handed on
abbrev pub Feeds : {S : Type 0} → (S → List (List ℕ) → S → Type 0) → (S → List ℕ → S → Type 0) → List ℕ → S → Result Unit Stop → S → List ℕ → Type 0
Feeds went stopped s a (Ok x) b kept = went a (whole s) b × (kept ≡ behind s)
Feeds went stopped s a (Err e) b kept = Fails went stopped s a b ⊎ ((e ≡ NoMemory) × went a [] b)
