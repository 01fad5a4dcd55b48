-- What each message leaves of a client before it asks: it is quiet, tells its user, and does what the model's client does.
-- Assumes nothing.
use Rattle.std.proofs.Common.{◌≡◌, ℕ, ◌+◌, ◌^◌, true, false, eqb, leb, List, [], ◌∷◌, ◌++◌, IfOk, Some, None, Ok, Err, Option, Result, sym, refl, ap, ◌∙◌}
use Rattle.std.specs.Option.{option_map}
use Rattle.std.proofs.lemmas.Bool.{cond_both, cond-true, cond-false, ltb-true, ltb-false, lt-leb, le-leb}
use Rattle.lease.specs.declared.fault.Fault as lease
use Rattle.lease.specs.declared.message.Grant as lent
use Rattle.lease.specs.Settings as model
use Rattle.lease.specs.Settings.{valid}
use Rattle.lease.specs.Holding.{Use, Wait, still_used, settled}
use Rattle.lease.specs.World as world
use Rattle.lease.specs.Run.{client_passes, hearing}
use Rattle.retry.specs.Run.{over}
use Rattle.wire.specs.declared.message.Message.{Message}
use Rattle.wire.specs.declared.message.Message.TheVariants.{Request, Grant, Settings, Tick, Crash, Restart, OwnNumber, Nonce, InUse, NoAddress, Fault}
use Rattle.client.specs.State.{State, Turn, silently, in_use, until, stops, crashes, restarts, passes, ticks, learns, named, leaves, asked_at, held_by, granted, grants, does}
use Rattle.client.specs.Telling.{told}
use Rattle.client.specs.Nonces.{requests}
use Rattle.client.specs.Refines.{Act, Passes, Hears, Crashes, Starts, acts, Fit, AllFrom, sent}
use Rattle.client.proofs.Taking.{Took, took}

pub record Turned (m : Message) (s : State) (t : Turn) : Type 0 where
  pub quiet : requests t.says ≡ []
  pub tells : told t.says (in_use s) ≡ in_use t.state
  pub does : List Act
  pub heard : AllFrom m does
  pub fit : Fit t.state does s.holder
  pub holder : t.state.holder ≡ acts does s.holder
  pub silent : sent does ≡ []

abbrev After : Message → State → Result Turn lease.Fault → Type 0
After m s r = IfOk r (λ t. Turned m s t)

unchanged : (m : Message) (s s' : State) → s'.holder ≡ s.holder → Turned m s (silently s')
unfolding requests told acts Fit AllFrom sent
unchanged m s s' e = record { quiet = refl; tells = ap (λ (x : world.Client). x.holding.uses) (sym e); does = []; heard = tt; fit = tt; holder = e; silent = refl }

stops-quiet : (o : Option Use) → requests (stops o) ≡ []
unfolding requests
stops-quiet None = refl
stops-quiet (Some u) = refl

stops-told : (o : Option Use) → told (stops o) o ≡ None
unfolding told
stops-told None = refl
stops-told (Some u) = refl

-- an address is over or stays
pub gone : (now : ℕ) (o : Option Use) → over now (option_map until o) ≡ true → still_used now o ≡ None
gone now None e = refl
gone now (Some u) e = cond-false (leb now u.until) (Some u) None (lt-leb now u.until (ltb-true u.until now e))

pub stays : (now : ℕ) (o : Option Use) → over now (option_map until o) ≡ false → still_used now o ≡ o
stays now None e = refl
stays now (Some u) e = cond-true (leb now u.until) (Some u) None (le-leb now u.until (ltb-false u.until now e))

module _ (s : State) where
  passed : s.holder.up ≡ true → (client_passes 1 s.holder).holding.uses ≡ still_used (s.holder.clock + 1) (in_use s)
  passed up = ap (λ (x : world.Client). x.holding.uses) (cond-true s.holder.up _ _ up)

  passing : s.holder.up ≡ true → Turned Tick s (passes s)
  unfolding requests told acts Fit AllFrom sent
  passing up =
      cond_both (over (s.holder.clock + 1) (option_map until (in_use s))) _ _ (λ t. Turned Tick s t)
      (λ e. record { quiet = refl; tells = sym (passed up ∙ gone (s.holder.clock + 1) (in_use s) e); does = Passes ∷ []; heard = (refl, tt); fit = (tt, tt); holder = refl; silent = refl })
      (λ e. record { quiet = refl; tells = sym (passed up ∙ stays (s.holder.clock + 1) (in_use s) e); does = Passes ∷ []; heard = (refl, tt); fit = (tt, tt); holder = refl; silent = refl })

  ticking : After Tick s (ticks s)
  ticking =
      cond_both s.holder.up _ _ (λ r. After Tick s r)
      (λ up. cond_both (leb (2 ^ 63) (s.holder.clock + 1)) _ _ (λ r. After Tick s r) (λ e. tt) (λ e. passing up))
      (λ down. unchanged Tick s s refl)

  crashing : Turned Crash s (crashes s)
  unfolding acts Fit AllFrom sent
  crashing =
      cond_both s.holder.up _ _ (λ t. Turned Crash s t)
      (λ up. record { quiet = stops-quiet (in_use s); tells = stops-told (in_use s); does = Crashes ∷ []; heard = (refl, tt); fit = (tt, tt); holder = refl; silent = refl })
      (λ down. unchanged Crash s s refl)

  restarting : (clock : ℕ) → After (Restart clock) s (restarts clock s)
  unfolding acts Fit AllFrom sent
  restarting clock =
      cond_both (leb (2 ^ 63) clock) _ _ (λ r. After (Restart clock) s r) (λ e. tt)
      (λ e. record { quiet = stops-quiet (in_use s); tells = stops-told (in_use s); does = Starts clock ∷ []; heard = (refl, tt); fit = (tt, tt); holder = refl; silent = refl })

  learning : (n t k : ℕ) → After (Settings n t k) s (learns n t k s)
  learning n t k = cond_both (valid n t k) _ _ (λ r. After (Settings n t k) s r) (λ e. unchanged _ s _ refl) (λ e. tt)

  naming : (o : Option ℕ) (n : ℕ) → After (OwnNumber n) s (named o n s)
  naming None n = unchanged _ s _ refl
  naming (Some m) n = tt

  -- an address is told, whatever was known before
  leaves_quiet : (a u : ℕ) (o : Option Use) → requests (leaves a o ++ (InUse a u ∷ [])) ≡ []
  unfolding requests
  leaves_quiet a u None = refl
  leaves_quiet a u (Some v) = cond_both (eqb v.address a) _ _ (λ l. requests (l ++ (InUse a u ∷ [])) ≡ []) (λ e. refl) (λ e. refl)

  leaves-told : (a u : ℕ) (o k : Option Use) → told (leaves a o ++ (InUse a u ∷ [])) k ≡ Some (record { address = a; until = u })
  unfolding told
  leaves-told a u None k = refl
  leaves-told a u (Some v) k = cond_both (eqb v.address a) _ _ (λ l. told (l ++ (InUse a u ∷ [])) k ≡ Some (record { address = a; until = u })) (λ e. refl) (λ e. refl)

  taking : (own : ℕ) (k : model.Settings) (g : lent.Grant) → s.holder.up ≡ true → s.own ≡ Some own → s.settings ≡ Some k →
      (r : Result world.Client lease.Fault) → hearing k.term own g s.holder ≡ r → IfOk r (λ h. Took k.term g s.holder h) → After (Grant g) s (held_by k.term g.address s r)
  unfolding acts Fit AllFrom sent
  taking own k g up o p (Ok h) e t =
      record {
        quiet = leaves_quiet g.address (asked_at s.holder.holding.waits + k.term) (in_use s);
        tells = leaves-told g.address (asked_at s.holder.holding.waits + k.term) (in_use s) (in_use s)
            ∙ ap (λ (w : Option Wait). Some (record { address = g.address; until = asked_at w + k.term })) t.waits
            ∙ sym (ap (λ (x : world.Client). x.holding.uses) t.is);
        does = Hears own k g ∷ [];
        heard = (refl, tt);
        fit = ((o, p), tt);
        holder = sym (ap (λ (r : Result world.Client lease.Fault). settled s.holder r) e);
        silent = refl;
      }
  taking own k g up o p (Err f) e t = tt

  granting_by : (g : lent.Grant) → s.holder.up ≡ true → (o : Option ℕ) → s.own ≡ o → (k : Option model.Settings) → s.settings ≡ k → After (Grant g) s (granted o k g s)
  granting_by g up None e k f = tt
  granting_by g up (Some own) e None f = tt
  granting_by g up (Some own) e (Some k) f = taking own k g up e f (hearing k.term own g s.holder) refl (took k.term g s.holder own up)

  granting : (g : lent.Grant) → After (Grant g) s (grants g s)
  granting g =
      cond_both s.holder.up _ _ (λ r. After (Grant g) s r) (λ up. granting_by g up s.own refl s.settings refl) (λ down. unchanged _ s s refl)

  pub turned : (m : Message) → IfOk (does m s) (λ t. Turned m s t)
  turned (Request r) = tt
  turned (Grant g) = granting g
  turned (Settings n t k) = learning n t k
  turned Tick = ticking
  turned Crash = crashing
  turned (Restart clock) = restarting clock
  turned (OwnNumber n) = naming s.own n
  turned (Nonce n) = unchanged _ s s refl
  turned (InUse a u) = tt
  turned NoAddress = tt
  turned (Fault f) = tt
