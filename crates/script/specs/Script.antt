-- A script: parts of who and message, how they are written as bytes, and what it means that bytes are read or have a fault.
-- Assumes nothing.
use Rattle.std.specs.Prelude.{◌≡◌, ℕ, ◌+◌, ◌<◌, ◌≤◌, ◌⊎◌, List, [], ◌∷◌, ◌++◌, length, slice_index}
use Rattle.script.specs.declared.entry.Entry.{Entry}
use Rattle.script.specs.declared.entry.Unread.{Unread}
use Rattle.script.specs.declared.entry.Unread.TheVariants.{Fault, NoMemory}

pub record Part : Type 0 where
  pub who : ℕ
  pub message : List ℕ

-- who, the message's length, and the message
unfoldable pub written : List Part → List ℕ
written [] = []
written (p ∷ ps) = p.who ∷ (length p.message ∷ (p.message ++ written ps))

-- the highest number of a client; 0 is the server
abbrev pub highest : ℕ
highest = 64

-- the server or a client, and a length that a byte holds
pub record Sound (p : Part) : Type 0 where
  pub known : p.who ≤ highest
  pub short : length p.message < 256

abbrev pub Known : List Part → Type 0
Known [] = Unit {0}
Known (p ∷ ps) = Sound p × Known ps

-- what an entry says
abbrev pub part_of : Entry → Part
part_of e = record { who = e.who; message = e.message.now }

-- the bytes are these parts and nothing else
pub record Reads (bytes : List ℕ) (parts : List Part) : Type 0 where
  pub whole : bytes ≡ written parts
  pub known : Known parts

-- an entry of nobody's, without a length, or shorter than its length says
pub record Bad (rest : List ℕ) : Type 0 where
  pub some : 0 < length rest
  pub why : (highest < slice_index rest 0) ⊎ ((length rest < 2) ⊎ (length rest < 2 + slice_index rest 1))

-- behind some parts a bad entry begins at byte n
pub record Stuck (bytes : List ℕ) (n : ℕ) : Type 0 where
  pub parts : List Part
  pub rest : List ℕ
  pub whole : bytes ≡ written parts ++ rest
  pub place : n ≡ length (written parts)
  pub known : Known parts
  pub bad : Bad rest

-- what a refusal says
abbrev pub Failed : List ℕ → Unread → Type 0
Failed bytes (Fault n) = Stuck bytes n
Failed bytes NoMemory = Unit {0}
