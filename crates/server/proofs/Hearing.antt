-- What a server makes of bytes, from what they say to it.
-- Assumes nothing.
use Rattle.std.proofs.Common.{◌≡◌, ℕ, false, List, Some, None, Ok, Err, Option, Result, sym, refl, subst}
use Rattle.std.specs.Option.{option_map}
use Rattle.lease.specs.declared.fault.Fault.{Fault}
use Rattle.lease.specs.declared.settings.Settings.{Settings}
use Rattle.lease.specs.declared.message.Grant.{Grant}
use Rattle.lease.specs.declared.message.Request.{Request}
use Rattle.lease.specs.Settings as model
use Rattle.lease.specs.Run as run
use Rattle.lease.specs.Of.{settings_of}
use Rattle.journal.specs.declared.journal.Journal.{Journal}
use Rattle.wire.specs.declared.message.Message.{Message}
use Rattle.wire.specs.Decode.{Answer, pool}
use Rattle.server.specs.declared.effect.Failure.{Failure}
use Rattle.server.specs.declared.effect.Lent.{Lent}
use Rattle.server.specs.Reply.{Reply}
use Rattle.server.specs.Server.{State, answers, does, grants, hears, replies, requested, settling, settling_by, size, understood}
use Rattle.server.specs.Steps.{Comes, ComesOr, HasMemory}

pub pool-size : (o : Option Settings) → pool o ≡ option_map size (option_map settings_of o)
pool-size None = refl
pool-size (Some s) = refl

module _ (bs : List ℕ) (s : State) where
  pub heard_ok : (m : Message) (r : Result (Option Lent) Failure) (b a : Journal) (t : State) → understood bs s ≡ Ok m → ComesOr b s (does m s) r a t → ComesOr b s (hears bs s) r a t
  unfolding hears
  heard_ok m r b a t e h = subst (λ (y : Answer). ComesOr b s (answers y s) r a t) (sym e) h

  pub heard_err : (f : Fault) (b : Journal) → understood bs s ≡ Err f → Comes b s (hears bs s) (Err f) b s
  unfolding hears
  heard_err f b e = subst (λ (y : Answer). Comes b s (answers y s) (Err f) b s) (sym e) (record { state = refl; effects = refl; file = refl })

  pub memory_ok : (m : Message) (r : Result (Option Lent) Failure) → understood bs s ≡ Ok m → (settling m ≡ false → HasMemory r) → settling_by (understood bs s) ≡ false → HasMemory r
  memory_ok m r e h p = h (subst (λ (y : Answer). settling_by y ≡ false) e p)

-- a grant in answer to a request
pub requested_ok : (k : model.Settings) (r : Request) (g : Grant) (s : State) (x : Reply) (b a : Journal) (to : State) → run.answer k s.server r ≡ Ok (Some g) →
    Comes b s (grants k g s) x a to → Comes b s (requested (Some k) r s) x a to
requested_ok k r g s x b a to e h = subst (λ (y : run.Answer). Comes b s (replies k y s) x a to) (sym e) h
