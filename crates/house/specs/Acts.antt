-- What a server's effects ask of the outside, one thing after the other, and how far it was done.
-- Assumes nothing; what a file system makes of a write or a sync is none of it.
use Rattle.std.specs.Prelude.{◌≡◌, ℕ, zero, suc, ◌+◌, List, [], ◌∷◌, ◌++◌, Ok, Err, vec_items, Result, slice_index_or}
use Rattle.std.specs.List.{flat_map}
use Rattle.wire.specs.declared.message.Message.{Message}
use Rattle.server.specs.declared.effect.Effect.{Effect}
use Rattle.server.specs.declared.effect.Effect.TheVariants.{Persist, Send}
use Rattle.server.specs.declared.server.Server.{Server}
use Rattle.stream.specs.declared.hearer.Stop.{Stop}

-- a place of the device was written with these bytes; all that was written is durable; a message was put out
pub data Act : Type 0 where
  Wrote : ℕ → List ℕ → Act
  Synced : Act
  Sent : Message → Act

-- the bytes of each place
abbrev pub Bytes : Type 0
Bytes = ℕ → List ℕ

abbrev pub bytes_in : Server → Bytes
bytes_in s k = slice_index_or (vec_items s.journal.device) k []

abbrev pub saved : Bytes → ℕ → List Act
saved p k = Wrote k (p k) ∷ (Synced ∷ [])

-- so many places from the first on, each durable before the next
unfoldable pub saves : Bytes → (first count : ℕ) → List Act
saves p f zero = []
saves p f (suc n) = saves p f n ++ saved p (f + n)

abbrev pub acts_of : Bytes → Effect → List Act
acts_of p (Persist w) = saves p w.first w.count
acts_of p (Send m) = Sent m ∷ []

abbrev pub acts : Bytes → List Effect → List Act
acts p es = flat_map (acts_of p) es

-- to what was done so far, this was added
abbrev pub Grows : {O : Type 0} → (O → List Act → Type 0) → O → List Act → O → Type 0
Grows did a xs b = (before : List Act) → did a before → did b (before ++ xs)

-- all of it was done, or a first part, and nothing from what failed on
pub record Partly {O : Type 0} (did : O → List Act → Type 0) (a : O) (xs : List Act) (b : O) : Type 0 where
  pub done : List Act
  pub failed : Act
  pub undone : List Act
  pub split : xs ≡ done ++ (failed ∷ undone)
  pub grows : Grows did a done b

abbrev pub Does : {O : Type 0} → (O → List Act → Type 0) → O → List Act → Result Unit Stop → O → Type 0
Does did a xs (Ok x) b = Grows did a xs b
Does did a xs (Err e) b = Partly did a xs b
