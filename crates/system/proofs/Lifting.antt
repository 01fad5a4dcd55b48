-- What the server does in one step, as events of the lending core, keeps what holds at every moment.
-- Assumes nothing.
use Rattle.std.proofs.Common.{◌≡◌, ℕ, ◌+◌, ◌≤◌, Bool, true, false, cond, List, [], ◌∷◌, Some, None, Ok, Err, sym, refl, ◌∙◌, subst, inr, arith}
use Rattle.std.proofs.lemmas.Bool.{cond_both, both_ways}
use Rattle.lease.specs.declared.message.Request as asked
use Rattle.lease.specs.Settings as model
use Rattle.lease.specs.Settings.{life}
use Rattle.lease.specs.World.{Message, Requests, Server, World}
use Rattle.lease.specs.Run as run
use Rattle.lease.specs.Run.{answer, crashes, forgets, restarts, serves, replies, with_server, server_hears}
use Rattle.std.proofs.lemmas.Option.{same_Some}
use Rattle.lease.proofs.Claims.{In}
use Rattle.lease.proofs.Sound.{Moments, Sound, Agrees}
use Rattle.lease.proofs.ServerSteps.{server-crashes, server-forgets, server-restarts, server-hears, server-hears_and_crashes}
use Rattle.lease.proofs.Keeping.{Tidy, serves_tidy, hears_tidy, tidy_step}
use Rattle.lease.proofs.Answers.{meant}
use Rattle.lease.proofs.History.{restarts-clock}
use Rattle.server.specs.Refines.{AllFrom, Asking, Cause, Crashes, Event, Forgets, Hears, HearsAndCrashes, Passes, Restarts, Rising, Time, occur, sent}
use Rattle.server.specs.Follows.{sent_on}
use Rattle.server.proofs.Following.{replies-on}

pub serves-keeps : (k : model.Settings) (v : Server) (a : run.Answer) → ((serves k a v).clock ≡ v.clock) × ((serves k a v).up ≡ v.up)
serves-keeps k v (Ok None) = (refl, refl)
serves-keeps k v (Ok (Some g)) = (refl, refl)
serves-keeps k v (Err f) = (refl, refl)

pub forgets-keeps : (gone : ℕ → Bool) (v : Server) → ((forgets gone v).clock ≡ v.clock) × ((forgets gone v).up ≡ v.up)
forgets-keeps gone v = cond_both v.up _ v (λ (z : Server). (z.clock ≡ v.clock) × (z.up ≡ v.up)) (λ e. (refl, refl)) (λ e. (refl, refl))

still_in : (m : Message) (a : run.Answer) (ms : List Message) → In m ms → In m (replies a ms)
still_in m (Ok None) ms i = i
still_in m (Ok (Some g)) ms i = inr i
still_in m (Err f) ms i = i

asking_rising : (r : asked.Request) (clock : ℕ) (o : Cause) → o ≡ Asking r → o ≡ Rising clock → ⊥
asking_rising r clock o e f = let z : ◌≡◌ {A = ℕ} 0 1 = cc in omega arith

crashed_tidy : (k : model.Settings) (v : Server) → Tidy k v → Tidy k (crashes v)
crashed_tidy k v t = record { pooled = t.pooled; one = t.one }

lost_tidy : (k : model.Settings) (v : Server) (r : asked.Request) (wrote : Bool) → Tidy k v → Tidy k (crashes (cond wrote (serves k (answer k v r) v) v))
lost_tidy k v r true t = crashed_tidy k _ (serves_tidy k v r (answer k v r) (meant k v r) t)
lost_tidy k v r false t = crashed_tidy k v t

module _ (k : model.Settings) (S : Moments) (o : Cause) where
  -- since every moment that `S` speaks of, the server's clock came to at most `n`, as long as the client may use what it has
  abbrev pub Fine : World → ℕ → Type 0
  Fine w n = (c t h : ℕ) → S c t h → t ≤ (w.clients c).clock → (w.clients c).clock ≤ t + k.term → n ≤ h + life k

  pub record Lifts (w : World) (evs : List Event) : Type 0 where
    pub world : World
    pub sound : Sound k S world
    pub tidy : Tidy k world.server
    pub server : world.server ≡ occur k evs w.server
    pub clients : world.clients ≡ w.clients
    pub messages : world.messages ≡ sent_on (sent k evs w.server) w.messages
    pub drawn : world.drawn ≡ w.drawn

  -- what a step of this cause may lean on
  pub record Leans (w : World) : Type 0 where
    pub requested : (r : asked.Request) → o ≡ Asking r → In (Requests r) w.messages
    pub onward : (clock : ℕ) → o ≡ Rising clock → (w.server.clock ≤ clock) × Fine w clock
    pub fine : w.server.up ≡ true → Fine w w.server.clock
    pub noted : (r : asked.Request) → o ≡ Asking r → w.server.up ≡ true → (c : ℕ) → (w.clients c).up ≡ true → S c (w.clients c).clock w.server.clock

  agrees : (w : World) → Leans w → (c : ℕ) → Agrees k (S c) w c
  agrees w l c up t h m a b = l.fine up c t h m a b

  kept : (c t h : ℕ) → S c t h → S c t h
  kept c t h m = m

  -- the same clock and power, and no message less
  leans_on : (w : World) (v : Server) (ms : List Message) → Leans w → (v.clock ≡ w.server.clock) × (v.up ≡ w.server.up) → ((m : Message) → In m w.messages → In m ms) →
      Leans (record { server = v; clients = w.clients; messages = ms; drawn = w.drawn })
  leans_on w v ms l e more =
      record {
        requested = λ r q. more _ (l.requested r q);
        onward = λ clock q. (omega (arith, e.0, (l.onward clock q).0), (l.onward clock q).1);
        fine = λ up. subst (λ (n : ℕ). Fine w n) (sym e.0) (l.fine (sym e.1 ∙ up));
        noted = λ r q up c cup. subst (λ (n : ℕ). S c (w.clients c).clock n) (sym e.0) (l.noted r q (sym e.1 ∙ up) c cup);
      }

  -- a server that is down now
  leans_down : (w : World) (v : Server) → Leans w → v.clock ≡ w.server.clock → v.up ≡ false → Leans (with_server v w)
  leans_down w v l e down =
      record {
        requested = l.requested;
        onward = λ clock q. (omega (arith, e, (l.onward clock q).0), (l.onward clock q).1);
        fine = λ up. absurd (both_ways _ down up);
        noted = λ r q up. absurd (both_ways _ down up);
      }

  module _ (untimed : o ≡ Time → ⊥) where
    pub lift : (evs : List Event) (w : World) → Sound k S w → Tidy k w.server → AllFrom o evs → Leans w → Lifts w evs
    lift [] w so ti h l = record { world = w; sound = so; tidy = ti; server = refl; clients = refl; messages = refl; drawn = refl }
    lift (Passes n ∷ evs) w so ti h l = absurd (untimed h.0.0)
    lift (Hears r ∷ evs) w so ti h l =
        let v : Server = w.server in
        let a : run.Answer = answer k v r in
        let i : In (Requests r) w.messages = l.requested r h.0 in
        let so₁ : Sound k S (server_hears k (Some (Requests r)) w) =
        server-hears k S S w so (agrees w l) kept (λ c up cup. l.noted r h.0 up c cup) (Some (Requests r)) (λ m e. subst (λ (z : Message). In z w.messages) (same_Some _ _ e) i) in
        let q : Lifts (server_hears k (Some (Requests r)) w) evs =
        lift evs (server_hears k (Some (Requests r)) w) so₁ (hears_tidy k w (Some (Requests r)) ti) h.1
        (leans_on w (serves k a v) (replies a w.messages) l (serves-keeps k v a) (λ m j. still_in m a w.messages j)) in
        record {
          world = q.world;
          sound = q.sound;
          tidy = q.tidy;
          server = q.server;
          clients = q.clients;
          messages = q.messages ∙ sym (replies-on a (sent k evs (serves k a v)) w.messages);
          drawn = q.drawn;
        }
    lift (HearsAndCrashes r wrote ∷ evs) w so ti h l =
        let v : Server = w.server in
        let i : In (Requests r) w.messages = l.requested r h.0 in
        let v₁ : Server = crashes (cond wrote (serves k (answer k v r) v) v) in
        let so₁ : Sound k S (with_server v₁ w) =
        server-hears_and_crashes k S S w so (agrees w l) kept (λ c up cup. l.noted r h.0 up c cup) (Some (Requests r)) wrote
        (λ m e. subst (λ (z : Message). In z w.messages) (same_Some _ _ e) i) in
        let same : v₁.clock ≡ v.clock = cond_both wrote (serves k (answer k v r) v) v (λ (z : Server). z.clock ≡ v.clock) (λ e. (serves-keeps k v (answer k v r)).0) (λ e. refl) in
        let q : Lifts (with_server v₁ w) evs = lift evs (with_server v₁ w) so₁ (lost_tidy k v r wrote ti) h.1 (leans_down w v₁ l same refl) in
        record { world = q.world; sound = q.sound; tidy = q.tidy; server = q.server; clients = q.clients; messages = q.messages; drawn = q.drawn }
    lift (Crashes ∷ evs) w so ti h l =
        let v₁ : Server = crashes w.server in
        let q : Lifts (with_server v₁ w) evs = lift evs (with_server v₁ w) (server-crashes k S S w so kept) (crashed_tidy k w.server ti) h.1 (leans_down w v₁ l refl refl) in
        record { world = q.world; sound = q.sound; tidy = q.tidy; server = q.server; clients = q.clients; messages = q.messages; drawn = q.drawn }
    lift (Forgets gone ∷ evs) w so ti h l =
        let v₁ : Server = forgets gone w.server in
        let so₁ : Sound k S (with_server v₁ w) = server-forgets k S S w so (agrees w l) kept gone in
        let q : Lifts (with_server v₁ w) evs =
        lift evs (with_server v₁ w) so₁ (tidy_step k (run.Forgets gone) w tt ti) h.1 (leans_on w v₁ w.messages l (forgets-keeps gone w.server) (λ m j. j)) in
        record { world = q.world; sound = q.sound; tidy = q.tidy; server = q.server; clients = q.clients; messages = q.messages; drawn = q.drawn }
    lift (Restarts clock lost ∷ evs) w so ti h l =
        let v₁ : Server = restarts k clock lost w.server in
        let r : (v₁.clock ≡ clock) × (v₁.up ≡ true) = restarts-clock k clock lost w.server in
        let on : (w.server.clock ≤ clock) × Fine w clock = l.onward clock h.0 in
        let so₁ : Sound k S (with_server v₁ w) = server-restarts k S S w so clock lost kept (λ c back up. absurd (omega (arith, on.0, back))) in
        let q : Lifts (with_server v₁ w) evs =
        lift evs (with_server v₁ w) so₁ (tidy_step k (run.ServerRestarts clock lost) w on.0 ti) h.1
        (record {
          requested = l.requested;
          onward = λ n e. let z : n ≡ clock = same_rising n clock (sym e ∙ h.0) in (omega (arith, z, r.0), (l.onward n e).1);
          fine = λ up. subst (λ (n : ℕ). Fine w n) (sym r.0) on.1;
          noted = λ q e. absurd (asking_rising q clock o e h.0);
        }) in
        record { world = q.world; sound = q.sound; tidy = q.tidy; server = q.server; clients = q.clients; messages = q.messages; drawn = q.drawn }
      where
        same_rising : (n m : ℕ) → Rising n ≡ Rising m → n ≡ m
        same_rising n m e = cc
