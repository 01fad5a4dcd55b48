-- What is to be made durable is just what a step wrote, in that order, and it precedes the grant.
-- Assumes nothing; whoever does the effects has to do them one after the other.
use Rattle.std.specs.Prelude.{◌≡◌, ℕ, zero, suc, ◌⊎◌, List, [], ◌∷◌, ◌++◌, Some}
use Rattle.lease.specs.declared.message.Grant as given
use Rattle.lease.specs.Settings as model
use Rattle.wire.specs.declared.message.Message.TheVariants.{Grant}
use Rattle.journal.specs.Append.{Write, perform, writes}
use Rattle.journal.specs.Durable.{CutFile}
use Rattle.journal.specs.Image.{index}
use Rattle.journal.specs.declared.journal.Journal.{Journal}
use Rattle.server.specs.declared.effect.Effect.{Effect}
use Rattle.server.specs.declared.effect.Effect.TheVariants.{Persist, Send}
use Rattle.server.specs.Server.{State, Step, hears, lease_of, planned}
use Rattle.server.specs.Refines.{grants_in}
use Rattle.server.specs.Steps.{Unwritten}

-- so many places from the first on
abbrev pub up_from : (first count : ℕ) → List ℕ
up_from f zero = []
up_from f (suc n) = f ∷ up_from (suc f) n

-- the places that effects make durable, in order
abbrev pub persisted : List Effect → List ℕ
persisted [] = []
persisted (Persist w ∷ es) = up_from w.first w.count ++ persisted es
persisted (Send m ∷ es) = persisted es

-- the places of the device that writes go to
abbrev pub written : List Write → List ℕ
written [] = []
written (w ∷ ws) = index w.side w.place ∷ written ws

-- a step that grants: the places that it wrote, then the grant; the last of these has the lease
pub record Grants (s : State) (t : Step) : Type 0 where
  pub settings : model.Settings
  pub known : s.settings ≡ Some settings
  pub grant : given.Grant
  pub first : ℕ
  pub count : ℕ
  pub order : t.effects ≡ Persist (record { first = first; count = count }) ∷ (Send (Grant grant) ∷ [])
  pub places : up_from first count ≡ written (writes (planned settings s) (lease_of settings s grant))
  pub device : t.state.device ≡ perform (writes (planned settings s) (lease_of settings s grant)) s.device
  pub before : List Write
  pub last : Write
  pub split : writes (planned settings s) (lease_of settings s grant) ≡ before ++ (last ∷ [])
  pub lease : last.what.lease ≡ lease_of settings s grant

-- any other step
pub record WritesNothing (s : State) (t : Step) : Type 0 where
  pub device : t.state.device ≡ s.device
  pub persists : persisted t.effects ≡ []
  pub grants : grants_in t.effects ≡ []

-- WRITTEN BEFORE ANSWERED, whatever the bytes
abbrev pub Orderly : State → Step → Type 0
Orderly s t = WritesNothing s t ⊎ Grants s t

abbrev pub StepsOrderly : Type 0
StepsOrderly = (s : State) (bs : List ℕ) → Orderly s (hears bs s)

-- THE FILE of the device: where nothing is granted the bytes in memory are as they were; else, while the places are made durable one after the other,
-- also where a crash cuts one of these writes, the file holds a device as the journal's laws have it
pub record FileBy (es : List Effect) (before after : Journal) (s : State) : Type 0 where
  pub unwritten : grants_in es ≡ [] → Unwritten before after
  pub cut : (k : model.Settings) (g : given.Grant) (first count : ℕ) → s.settings ≡ Some k → es ≡ Persist (record { first = first; count = count }) ∷ (Send (Grant g) ∷ []) →
      CutFile before after (planned k s) (lease_of k s g) (record { first = first; count = count })
