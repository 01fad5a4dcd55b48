-- A step of the server, seen as what it comes to and what it leaves.
-- Assumes nothing.
use Rattle.std.specs.Prelude.{◌≡◌, Bool, true, false, Some, None, Ok, Err, vec_items, Option, Result}
use Rattle.lease.specs.Settings as model
use Rattle.journal.specs.declared.journal.Journal.{Journal}
use Rattle.journal.specs.Durable.{CutFile}
use Rattle.journal.specs.declared.state.Found.{Found}
use Rattle.journal.specs.declared.state.Found.TheVariants.{New, Lost, Table}
use Rattle.server.specs.declared.effect.Failure.{Failure}
use Rattle.server.specs.declared.effect.Failure.TheVariants.{Refused, NoMemory}
use Rattle.server.specs.declared.effect.Lent.{Lent}
use Rattle.server.specs.Reply.{Reply, effects_of}
use Rattle.server.specs.Server.{State, Step, lease_of, planned}

-- the device's bytes in memory are as they were
abbrev pub Unwritten : Journal → Journal → Type 0
Unwritten before after = vec_items after.device ≡ vec_items before.device

-- or as an append leaves them, of a state with these settings
abbrev pub FiledBy : Option model.Settings → Reply → (before after : Journal) → State → Type 0
FiledBy o (Ok None) b a s = Unwritten b a
FiledBy o (Err f) b a s = Unwritten b a
FiledBy None (Ok (Some l)) b a s = Unit {0}
FiledBy (Some k) (Ok (Some l)) b a s = CutFile b a (planned k s) (lease_of k s l.grant) l.written

-- from the state `s` with the journal `before`, by the step `t`
pub record Comes (before : Journal) (s : State) (t : Step) (r : Reply) (after : Journal) (to : State) : Type 0 where
  pub state : to ≡ t.state
  pub effects : effects_of r ≡ t.effects
  pub file : FiledBy s.settings r before after s

-- or without the memory for it, and nothing changed
abbrev pub ComesOr : (before : Journal) → State → Step → Result (Option Lent) Failure → (after : Journal) (to : State) → Type 0
ComesOr b s t (Ok l) a to = Comes b s t (Ok l) a to
ComesOr b s t (Err (Refused f)) a to = Comes b s t (Err f) a to
ComesOr b s t (Err (NoMemory e)) a to = to ≡ s

-- it didn't stop for want of memory
abbrev pub HasMemory : Result (Option Lent) Failure → Type 0
HasMemory (Ok l) = Unit {0}
HasMemory (Err (Refused f)) = Unit {0}
HasMemory (Err (NoMemory e)) = ⊥

-- a reading that found neither a table nor zeros alone
abbrev pub missing : Found → Bool
missing New = false
missing Lost = true
missing Table = false
