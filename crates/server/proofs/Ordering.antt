-- What is made durable is what was written, and precedes the grant.
-- Assumes nothing.
use Rattle.std.proofs.Common.{◌≡◌, ℕ, suc, ◌+◌, ◌^◌, leb, List, [], ◌∷◌, ◌++◌, length, Some, None, Ok, Err, Option, refl, ap, ◌∙◌, inl, inr, arith}
use Rattle.std.proofs.lemmas.Bool.{cond_both}
use Rattle.lease.specs.declared.fault.Fault.TheVariants.{BadSettings, CountExhausted}
use Rattle.lease.specs.declared.lease.Lease.{Lease}
use Rattle.lease.specs.declared.message.Grant as given
use Rattle.lease.specs.declared.message.Request as asked
use Rattle.lease.specs.Settings as model
use Rattle.lease.specs.Settings.{valid}
use Rattle.lease.specs.Run as run
use Rattle.lease.specs.Run.{answer, server_passes}
use Rattle.wire.specs.declared.message.Message.TheVariants.{Request, Grant, Settings, Tick, Crash, Restart, OwnNumber, Nonce, InUse, NoAddress, Fault}
use Rattle.wire.specs.Decode.{Answer}
use Rattle.journal.specs.declared.state.Side.{Side}
use Rattle.journal.specs.declared.state.Side.TheVariants.{Row0, Row1}
use Rattle.journal.specs.Append.{Plan, Write, exhausted, numbered, writes}
use Rattle.journal.specs.Image.{index}
use Rattle.server.specs.Server.{State, Step, answers, appends, comes_back, hears, lease_of, learns, planned, reads, refuses, replies, requested, rereads, settles, silently, tells, understood, with_server}
use Rattle.server.specs.Refines.{grants_in}
use Rattle.server.specs.Orderly.{Grants, Orderly, StepsOrderly, persisted, up_from, written}

next_place : (s : Side) (k : ℕ) → suc (index s k) ≡ index s (suc k)
next_place Row0 k = refl
next_place Row1 k = omega arith

-- consecutive places
up-written : (s : Side) (k q b : ℕ) (xs : List Lease) → up_from (index s k) (length (numbered s k q b xs)) ≡ written (numbered s k q b xs)
unfolding numbered
up-written s k q b [] = refl
up-written s k q b (x ∷ xs) =
    ap (λ (l : List ℕ). index s k ∷ l)
    (ap (λ (f : ℕ). up_from f (length (numbered s (suc k) (suc q) b xs))) (next_place s k) ∙ up-written s (suc k) (suc q) b xs)

ends : (s : Side) (k q b : ℕ) (xs : List Lease) (x : Lease) → (ws : List Write) × (w : Write) × (numbered s k q b (xs ++ (x ∷ [])) ≡ ws ++ (w ∷ [])) × (w.what.lease ≡ x)
unfolding numbered
ends s k q b [] x = ([], record { side = s; place = k; what = record { sequence = q; base = b; lease = x } }, refl, refl)
ends s k q b (y ∷ xs) x =
    let w : Write = record { side = s; place = k; what = record { sequence = q; base = b; lease = y } } in
    let r : (ws : List Write) × (w : Write) × (numbered s (suc k) (suc q) b (xs ++ (x ∷ [])) ≡ ws ++ (w ∷ [])) × (w.what.lease ≡ x) = ends s (suc k) (suc q) b xs x in
    (w ∷ r.0, r.1, ap (λ (l : List Write). w ∷ l) r.2, r.3)

tells_only : (o : Option ℕ) → (persisted (tells o) ≡ []) × (grants_in (tells o) ≡ [])
tells_only None = (refl, refl)
tells_only (Some u) = (refl, refl)

module _ (s : State) where
  still : (t : Step) → t.state.device ≡ s.device → persisted t.effects ≡ [] → grants_in t.effects ≡ [] → Orderly s t
  still t d p g = inl (record { device = d; persists = p; grants = g })

  read_orderly : (k : model.Settings) (clock : ℕ) → Orderly s (reads k clock s)
  read_orderly k clock = still (reads k clock s) refl (tells_only (rereads k clock s.device s.server).silent).0 (tells_only (rereads k clock s.device s.server).silent).1

  granted : (k : model.Settings) (g : given.Grant) → s.settings ≡ Some k → Grants s (appends k g (planned k s) (lease_of k s g) s)
  granted k g e =
      let p : Plan = planned k s in
      let z : (ws : List Write) × (w : Write) × (writes p (lease_of k s g) ≡ ws ++ (w ∷ [])) × (w.what.lease ≡ lease_of k s g) =
      ends p.side p.place (p.first + p.place) p.base p.copied (lease_of k s g) in
      record {
        settings = k;
        known = e;
        grant = g;
        first = index p.side p.place;
        count = length (writes p (lease_of k s g));
        order = refl;
        places = up-written p.side p.place (p.first + p.place) p.base (p.copied ++ (lease_of k s g ∷ []));
        device = refl;
        before = z.0;
        last = z.1;
        split = z.2;
        lease = z.3;
      }

  replied : (k : model.Settings) (a : run.Answer) → s.settings ≡ Some k → Orderly s (replies k a s)
  replied k (Ok None) e = still _ refl refl refl
  replied k (Err f) e = still _ refl refl refl
  replied k (Ok (Some g)) e =
      cond_both (exhausted (planned k s)) (refuses CountExhausted s) (appends k g (planned k s) (lease_of k s g) s) (λ t. Orderly s t) (λ h. still (refuses CountExhausted s) refl refl refl) (λ h. inr (granted k g e))

  asked_for : (o : Option model.Settings) (r : asked.Request) → s.settings ≡ o → Orderly s (requested o r s)
  asked_for None r e = still _ refl refl refl
  asked_for (Some k) r e = replied k (answer k s.server r) e

  came_back : (o : Option model.Settings) (clock : ℕ) → Orderly s (comes_back o clock s)
  came_back None clock = still _ refl refl refl
  came_back (Some k) clock = read_orderly k clock

  settled : (k : model.Settings) → Orderly s (settles k s)
  settled k =
      cond_both s.server.up (reads k s.server.clock s) (silently (record { settings = Some k; server = s.server; device = s.device; cursor = s.cursor })) (λ t. Orderly s t)
      (λ h. read_orderly k s.server.clock) (λ h. inl (record { device = refl; persists = refl; grants = refl }))

  learned : (o : Option model.Settings) (n t e : ℕ) → Orderly s (learns o n t e s)
  learned None n t e =
      cond_both (valid n t e) (settles (record { addresses = n; term = t; skew = e }) s) (refuses BadSettings s) (λ x. Orderly s x) (λ h. settled (record { addresses = n; term = t; skew = e })) (λ h. still (refuses BadSettings s) refl refl refl)
  learned (Some k) n t e = still _ refl refl refl

  ordered : (a : Answer) → Orderly s (answers a s)
  ordered (Err f) = still _ refl refl refl
  ordered (Ok (Request r)) = asked_for s.settings r refl
  ordered (Ok (Grant g)) = still _ refl refl refl
  ordered (Ok (Settings n t e)) = learned s.settings n t e
  ordered (Ok Tick) =
      cond_both (leb (2 ^ 63) (s.server.clock + 1)) (refuses CountExhausted s) (silently (with_server (server_passes 1 s.server) s)) (λ t. Orderly s t)
      (λ h. still (refuses CountExhausted s) refl refl refl) (λ h. inl (record { device = refl; persists = refl; grants = refl }))
  ordered (Ok Crash) = still _ refl refl refl
  ordered (Ok (Restart clock)) =
      cond_both (leb (2 ^ 63) clock) (refuses CountExhausted s) (comes_back s.settings clock s) (λ t. Orderly s t) (λ h. still (refuses CountExhausted s) refl refl refl) (λ h. came_back s.settings clock)
  ordered (Ok (OwnNumber c)) = still _ refl refl refl
  ordered (Ok (Nonce c)) = still _ refl refl refl
  ordered (Ok (InUse a u)) = still _ refl refl refl
  ordered (Ok NoAddress) = still _ refl refl refl
  ordered (Ok (Fault f)) = still _ refl refl refl

pub steps_orderly : StepsOrderly
unfolding hears
steps_orderly s bs = ordered s (understood bs s)
