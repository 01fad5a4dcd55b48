-- What a client makes of bytes: it refuses them, or takes a turn by the message that they are, and then may ask.
-- Assumes nothing.
use Rattle.std.proofs.Common.{◌≡◌, ℕ, ◌+◌, ◌^◌, ◌<◌, true, false, ltb, leb, ◌⊎◌, List, [], ◌∷◌, IfOk, Some, None, Ok, Err, Option, Result, sym, refl, ap, ◌∙◌, subst, inl, inr, arith}
use Rattle.std.specs.Option.{option_map}
use Rattle.std.proofs.lemmas.Bool.{cond_both, cond-false, and_parts, leb-true, leb-false, ltb-true}
use Rattle.lease.specs.declared.fault.Fault as lease
use Rattle.lease.specs.declared.message.Grant as given
use Rattle.lease.specs.Settings as model
use Rattle.lease.specs.Settings.{valid}
use Rattle.lease.specs.Holding.{settled}
use Rattle.lease.specs.World as world
use Rattle.lease.specs.World.{knowing_nothing}
use Rattle.lease.specs.Run.{client_passes, hearing}
use Rattle.retry.specs.Schedule.{is_due}
use Rattle.retry.specs.Run.{over}
use Rattle.wire.specs.declared.message.Message.{Message}
use Rattle.wire.specs.declared.message.Message.TheVariants.{Request, Grant, Settings, Tick, Crash, Restart, OwnNumber, Nonce, InUse, NoAddress, Fault}
use Rattle.wire.specs.declared.reader.Reader.TheVariants as reader
use Rattle.wire.specs.Decode.{answered, judged}
use Rattle.wire.specs.Read.{read}
use Rattle.client.specs.State.{State, Turn, in_use, until, ticks, crashes, restarts, learns, named, held_by, granted, does}
use Rattle.client.specs.Client.{Client, Step, keeps, sends, ready, asks_by, asks, queued, refuses, goes_on, answers, size, hears}
use Rattle.system.specs.Watch.{start_in}

-- a fault is no turn
fault_turn : (f : lease.Fault) (t : Turn) → ◌≡◌ {A = Result Turn lease.Fault} (Err f) (Ok t) → ⊥
fault_turn f t e = let z : ◌≡◌ {A = ℕ} 0 1 = cc in omega arith

same_turn : (s t : Turn) → ◌≡◌ {A = Result Turn lease.Fault} (Ok s) (Ok t) → s ≡ t
same_turn s t e = cc

-- a restart that isn't taken
late : (clock : ℕ) → leb (2 ^ 63) clock ≡ true → start_in (Some (Restart clock)) ≡ None
late clock e = cond_both (ltb clock (2 ^ 63)) (Some clock) None (λ o. o ≡ None) (λ f. absurd (no_start f)) (λ f. refl)
  where
    no_start : ltb clock (2 ^ 63) ≡ true → ⊥
    no_start f = omega (arith, leb-true (2 ^ 63) clock e, ltb-true clock (2 ^ 63) f)

module _ (bs : List ℕ) (c : Client) (P : Step → Type 0) (refused : (f : lease.Fault) → start_in (read bs) ≡ None → P (refuses f c))
    (turned : (m : Message) (t : Turn) → read bs ≡ Some m → does m c.state ≡ Ok t → P (asks t (queued m c.nonces))) where
  going : (m : Message) → read bs ≡ Some m → (r : Result Turn lease.Fault) → does m c.state ≡ r → ((f : lease.Fault) → r ≡ Err f → start_in (Some m) ≡ None) → P (goes_on c (queued m c.nonces) r)
  going m e (Ok t) d h = turned m t e d
  going m e (Err f) d h = refused f (ap start_in e ∙ h f refl)

  quietly : (m : Message) → read bs ≡ Some m → start_in (Some m) ≡ None → P (goes_on c (queued m c.nonces) (does m c.state))
  quietly m e h = going m e (does m c.state) refl (λ f g. h)

  faulty : (m : Message) → read bs ≡ Some m → start_in (Some m) ≡ None → (f : lease.Fault) → P (refuses f c)
  faulty m e h f = refused f (ap start_in e ∙ h)

  by_message : (n : Option ℕ) (m : Message) → read bs ≡ Some m → P (answers c (judged reader.Client n m))
  by_message n (Request r) e = faulty (Request r) e refl _
  by_message None (Grant g) e = faulty (Grant g) e refl _
  by_message (Some n) (Grant g) e = cond_both (ltb g.address n) _ _ (λ a. P (answers c a)) (λ f. quietly (Grant g) e refl) (λ f. faulty (Grant g) e refl _)
  by_message None (Settings n t k) e = cond_both (valid n t k) _ _ (λ a. P (answers c a)) (λ f. quietly (Settings n t k) e refl) (λ f. faulty (Settings n t k) e refl _)
  by_message (Some p) (Settings n t k) e = faulty (Settings n t k) e refl _
  by_message n Tick e = quietly Tick e refl
  by_message n Crash e = quietly Crash e refl
  by_message n (Restart clock) e =
      cond_both (leb (2 ^ 63) clock) _ _ (λ r. does (Restart clock) c.state ≡ r → P (goes_on c (queued (Restart clock) c.nonces) r))
      (λ f d. going (Restart clock) e _ d (λ g h. late clock f))
      (λ f d. going (Restart clock) e _ d (λ g h. absurd (fault_turn g _ (sym h))))
      refl
  by_message n (OwnNumber m) e = quietly (OwnNumber m) e refl
  by_message n (Nonce m) e = quietly (Nonce m) e refl
  by_message n (InUse a u) e = faulty (InUse a u) e refl _
  by_message n NoAddress e = faulty NoAddress e refl _
  by_message n (Fault f) e = faulty (Fault f) e refl _

  by_reading : (n : Option ℕ) (o : Option Message) → read bs ≡ o → P (answers c (answered reader.Client n o))
  by_reading n None e = refused _ (ap start_in e)
  by_reading n (Some m) e = by_message n m e

  pub client-hears : P (hears bs c)
  unfolding hears
  client-hears = by_reading (option_map size c.state.settings) (read bs) refl

-- WHAT A TURN MAKES of clock, power and holding
abbrev pub HolderBy : Message → State → world.Client → Type 0
HolderBy (Request r) s h = h ≡ s.holder
HolderBy (Grant g) s h = (h ≡ s.holder) ⊎ ((c : ℕ) × (k : model.Settings) × (s.own ≡ Some c) × (s.settings ≡ Some k) × (h ≡ settled s.holder (hearing k.term c g s.holder)))
HolderBy (Settings n t e) s h = h ≡ s.holder
HolderBy Tick s h = h ≡ client_passes 1 s.holder
HolderBy Crash s h = ((s.holder.up ≡ true) × (h ≡ knowing_nothing s.holder.clock false)) ⊎ ((s.holder.up ≡ false) × (h ≡ s.holder))
HolderBy (Restart clock) s h = (clock < 2 ^ 63) × (h ≡ knowing_nothing clock true)
HolderBy (OwnNumber n) s h = h ≡ s.holder
HolderBy (Nonce n) s h = h ≡ s.holder
HolderBy (InUse a u) s h = h ≡ s.holder
HolderBy NoAddress s h = h ≡ s.holder
HolderBy (Fault f) s h = h ≡ s.holder

-- and of its own number, which it is told once
abbrev pub OwnBy : Message → State → Option ℕ → Type 0
OwnBy (Request r) s o = o ≡ s.own
OwnBy (Grant g) s o = o ≡ s.own
OwnBy (Settings n t e) s o = o ≡ s.own
OwnBy Tick s o = o ≡ s.own
OwnBy Crash s o = o ≡ s.own
OwnBy (Restart clock) s o = o ≡ s.own
OwnBy (OwnNumber n) s o = (s.own ≡ None) × (o ≡ Some n)
OwnBy (Nonce n) s o = o ≡ s.own
OwnBy (InUse a u) s o = o ≡ s.own
OwnBy NoAddress s o = o ≡ s.own
OwnBy (Fault f) s o = o ≡ s.own

pub record TurnedBy (m : Message) (s : State) (t : Turn) : Type 0 where
  pub holder : HolderBy m s t.state.holder
  pub own : OwnBy m s t.state.own

module _ (s : State) where
  abbrev After : Message → Result Turn lease.Fault → Type 0
  After m r = IfOk r (λ t. TurnedBy m s t)

  ticking : After Tick (ticks s)
  ticking =
      cond_both s.holder.up _ _ (λ r. After Tick r)
      (λ up. cond_both (leb (2 ^ 63) (s.holder.clock + 1)) _ _ (λ r. After Tick r) (λ e. tt)
      (λ e. cond_both (over (s.holder.clock + 1) (option_map until (in_use s))) _ _ (λ t. TurnedBy Tick s t) (λ f. record { holder = refl; own = refl }) (λ f. record { holder = refl; own = refl })))
      (λ down. record { holder = sym (cond-false s.holder.up _ _ down); own = refl })

  crashing : TurnedBy Crash s (crashes s)
  crashing = cond_both s.holder.up _ _ (λ t. TurnedBy Crash s t) (λ up. record { holder = inl (up, refl); own = refl }) (λ down. record { holder = inr (down, refl); own = refl })

  restarting : (clock : ℕ) → After (Restart clock) (restarts clock s)
  restarting clock = cond_both (leb (2 ^ 63) clock) _ _ (λ r. After (Restart clock) r) (λ e. tt) (λ e. record { holder = (leb-false (2 ^ 63) clock e, refl); own = refl })

  learning : (n t k : ℕ) → After (Settings n t k) (learns n t k s)
  learning n t k = cond_both (valid n t k) _ _ (λ r. After (Settings n t k) r) (λ e. record { holder = refl; own = refl }) (λ e. tt)

  naming : (o : Option ℕ) (n : ℕ) → s.own ≡ o → After (OwnNumber n) (named o n s)
  naming None n e = record { holder = refl; own = (e, refl) }
  naming (Some m) n e = tt

  taking : (c : ℕ) (k : model.Settings) (g : given.Grant) → s.own ≡ Some c → s.settings ≡ Some k → (r : Result world.Client lease.Fault) → hearing k.term c g s.holder ≡ r →
      After (Grant g) (held_by k.term g.address s r)
  taking c k g o e (Ok h) d = record { holder = inr (c, k, o, e, sym (ap (settled s.holder) d)); own = refl }
  taking c k g o e (Err f) d = tt

  granting : (g : given.Grant) (o : Option ℕ) (k : Option model.Settings) → s.own ≡ o → s.settings ≡ k → After (Grant g) (granted o k g s)
  granting g None k e f = tt
  granting g (Some c) None e f = tt
  granting g (Some c) (Some k) e f = taking c k g e f (hearing k.term c g s.holder) refl

  turns : (m : Message) → After m (does m s)
  turns (Request r) = tt
  turns (Grant g) = cond_both s.holder.up _ _ (λ r. After (Grant g) r) (λ up. granting g s.own s.settings refl refl) (λ down. record { holder = inl refl; own = refl })
  turns (Settings n t k) = learning n t k
  turns Tick = ticking
  turns Crash = crashing
  turns (Restart clock) = restarting clock
  turns (OwnNumber n) = naming s.own n refl
  turns (Nonce n) = record { holder = refl; own = refl }
  turns (InUse a u) = tt
  turns NoAddress = tt
  turns (Fault f) = tt

  pub turned_by : (m : Message) (t : Turn) → does m s ≡ Ok t → TurnedBy m s t
  turned_by m t e = let P : Result Turn lease.Fault → Type 0 = λ r. After m r in subst P e (turns m)

-- THEN IT MAY ASK
module _ (t : Turn) (P : Step → Type 0) where
  pub may_ask : (k : Option model.Settings) (o : Option ℕ) (ns : List ℕ) → t.state.settings ≡ k → t.state.own ≡ o → P (keeps t ns) →
      ((k : model.Settings) (c n : ℕ) (ms : List ℕ) → t.state.settings ≡ Some k → t.state.own ≡ Some c → ns ≡ n ∷ ms → t.state.holder.up ≡ true → P (sends k c n t ms)) → P (asks_by k o t ns)
  may_ask None o ns e f keep send = keep
  may_ask (Some k) None ns e f keep send = keep
  may_ask (Some k) (Some c) [] e f keep send = keep
  may_ask (Some k) (Some c) (n ∷ ns) e f keep send =
      cond_both (ready t.state) _ _ P (λ r. send k c n ns e f refl (and_parts t.state.holder.up (is_due t.state.schedule t.state.holder.clock) r).0) (λ r. keep)
