-- An event of the server that is no tick keeps a run with its world of the lending core.
-- Assumes nothing.
use Rattle.std.proofs.Common.{◌≡◌, ℕ, ◌+◌, ◌^◌, ◌<◌, ◌≤◌, Bool, true, false, ◌||◌, ◌⊎◌, List, [], ◌∷◌, ◌++◌, is_some, Some, Option, sym, refl, ap, ◌∙◌, subst, inl, inr, arith}
use Rattle.std.proofs.lemmas.Bool.{both_ways, cases_Bool, and_from, cond_both}
use Rattle.lease.specs.declared.message.Grant as given
use Rattle.lease.specs.declared.message.Request as asked
use Rattle.lease.specs.Settings as model
use Rattle.lease.specs.Settings.{life}
use Rattle.lease.specs.World as core
use Rattle.lease.specs.World.{Message, Requests, Grants, World}
use Rattle.lease.specs.Run.{answer, crashes, forgets, restarts, serves}
use Rattle.std.proofs.lemmas.Option.{same_Some}
use Rattle.lease.proofs.Claims.{In}
use Rattle.lease.proofs.Sound.{same}
use Rattle.lease.proofs.History.{restarts-clock}
use Rattle.server.specs.Server as server
use Rattle.server.specs.Refines.{AllFrom, Asking, Cause, Crashes, Event, Forgets, Hears, HearsAndCrashes, Passes, Restarts, Rising, Time, model_of, occur, occurs, sent}
use Rattle.server.specs.Follows.{sent_on}
use Rattle.system.specs.Parties.{Parties, places}
use Rattle.system.specs.Watch.{Lead, Watch, requested, granted, same_grant, noted}
use Rattle.system.proofs.Lifting.{serves-keeps, forgets-keeps, Fine, Leans, Lifts, lift}
use Rattle.system.proofs.Watching.{Wider, At, grant-same, noted_wider, noted_now}
use Rattle.system.proofs.Following.{Moment, Home, Queues, Base, Near, Judged, ticked, is_up, judge, lately, server-clock, with_leads}

-- what was sent stays so, and grants that are sent are there
pub still_sent : (m : Message) (gs : List given.Grant) (ms : List Message) → In m ms → In m (sent_on gs ms)
still_sent m [] ms i = i
still_sent m (g ∷ gs) ms i = still_sent m gs (Grants g ∷ ms) (inr i)

pub now_sent : (g : given.Grant) (gs : List given.Grant) (ms : List Message) → granted g gs ≡ true → In (Grants g) (sent_on gs ms)
unfolding granted
now_sent g [] ms e = absurd (both_ways false refl e)
now_sent g (h ∷ gs) ms e =
    elim (cases_Bool (same_grant g h)) [
      | inl s ↦ still_sent (Grants g) gs (Grants h ∷ ms) (inl (ap (λ (z : given.Grant). Grants z) (grant-same g h s)))
      | inr s ↦ now_sent g gs (Grants h ∷ ms) (or_rest (same_grant g h) (granted g gs) s e)
    ]
  where
    or_rest : (a b : Bool) → a ≡ false → (a || b) ≡ true → b ≡ true
    or_rest true b s e = absurd (both_ways true s refl)
    or_rest false b s e = e

either_so : (b : Bool) (P Q R : Bool) → ((P ≡ true) → (Q ≡ true) ⊎ (R ≡ true)) → (b || P) ≡ true → ((b || Q) ≡ true) ⊎ (R ≡ true)
either_so true P Q R f e = inl refl
either_so false P Q R f e = f e

pub granted_either : (g : given.Grant) (gs hs : List given.Grant) → granted g (gs ++ hs) ≡ true → (granted g gs ≡ true) ⊎ (granted g hs ≡ true)
unfolding granted
granted_either g [] hs e = inr e
granted_either g (h ∷ gs) hs e = either_so (same_grant g h) (granted g (gs ++ hs)) (granted g gs) (granted g hs) (λ f. granted_either g gs hs f) e

-- the clock stays, or is the one of the restart
abbrev Clocked : Cause → (before after : ℕ) → Type 0
Clocked o n m = (m ≡ n) ⊎ (o ≡ Rising m)

clocked_from : (o : Cause) (n n' m : ℕ) → n' ≡ n → Clocked o n' m → Clocked o n m
clocked_from o n n' m e (inl p) = inl (p ∙ e)
clocked_from o n n' m e (inr p) = inr p

clocked_to : (o : Cause) (n n' m : ℕ) → o ≡ Rising n' → Clocked o n' m → Clocked o n m
clocked_to o n n' m e (inl p) = inr (e ∙ ap Rising (sym p))
clocked_to o n n' m e (inr p) = inr p

pub clock_by : (k : model.Settings) (o : Cause) (untimed : o ≡ Time → ⊥) (evs : List Event) (v : core.Server) → AllFrom o evs → Clocked o v.clock (occur k evs v).clock
clock_by k o untimed [] v h = inl refl
clock_by k o untimed (Passes n ∷ evs) v h = absurd (untimed h.0.0)
clock_by k o untimed (Hears r ∷ evs) v h = clocked_from o v.clock _ _ (serves-keeps k v (answer k v r)).0 (clock_by k o untimed evs (occurs k (Hears r) v) h.1)
clock_by k o untimed (HearsAndCrashes r wrote ∷ evs) v h =
    clocked_from o v.clock _ _ (cond_both wrote (serves k (answer k v r) v) v (λ (z : core.Server). z.clock ≡ v.clock) (λ e. (serves-keeps k v (answer k v r)).0) (λ e. refl))
    (clock_by k o untimed evs (occurs k (HearsAndCrashes r wrote) v) h.1)
clock_by k o untimed (Crashes ∷ evs) v h = clock_by k o untimed evs (crashes v) h.1
clock_by k o untimed (Forgets gone ∷ evs) v h = clocked_from o v.clock _ _ (forgets-keeps gone v).0 (clock_by k o untimed evs (forgets gone v) h.1)
clock_by k o untimed (Restarts clock lost ∷ evs) v h =
    clocked_to o v.clock _ _ (h.0 ∙ ap Rising (sym (restarts-clock k clock lost v).0)) (clock_by k o untimed evs (restarts k clock lost v) h.1)

-- a step of the server, as events of the lending core, and what it may lean on
pub record Serves (k : model.Settings) (x : Parties) (w : Watch) (s' : server.State) (settings' : Option model.Settings) : Type 0 where
  pub cause : Cause
  pub untimed : cause ≡ Time → ⊥
  pub events : List Event
  pub heard : AllFrom cause events
  pub state : model_of k s' ≡ occur k events (model_of k x.server)
  pub requested : (r : asked.Request) → cause ≡ Asking r → (requested r w.requests ≡ true) × (is_some w.settings ≡ true)
  pub onward : (clock : ℕ) → cause ≡ Rising clock → (x.server.server.clock ≤ clock) × (s'.server.up ≡ true) × (s'.server.clock ≡ clock)
  pub home : Home k s'
  pub clock : s'.server.clock < 2 ^ 63
  pub known : is_some w.settings ≡ true → is_some settings' ≡ true
  pub told : (j : model.Settings) → s'.settings ≡ Some j → (j ≡ k) × (is_some settings' ≡ true)

module _ (k : model.Settings) (x : Parties) (w : Watch) (f : Judged k x w) (s' : server.State) (settings' : Option model.Settings) (q : Serves k x w s' settings') (gs : List given.Grant) where
  abbrev b : Base k 0 x w
  b = f.base

  abbrev y : Parties
  y = record { server = s'; clients = x.clients }

  abbrev v₀ : Watch
  v₀ = record { requests = w.requests; grants = gs ++ w.grants; nonces = w.nonces; settings = settings'; leads = w.leads }

  abbrev S : ℕ → ℕ → ℕ → Type 0
  S = Moment x w

  here : (x.server.server.clock ≡ b.world.server.clock + 0) × (x.server.server.up ≡ b.world.server.up)
  here = server-clock k 0 x w b

  fine_now : b.world.server.up ≡ true → Fine k S q.cause b.world b.world.server.clock
  fine_now up c t h m before soon = lately k x w f up c t h m soon

  module _ (slim : (i : ℕ) → i < places → is_some settings' ≡ true → (d : Lead) → noted y w.leads i ≡ Some d → d.most ≤ d.least + k.skew) where
    fine_rising : (clock : ℕ) → q.cause ≡ Rising clock → Fine k S q.cause b.world clock
    fine_rising clock o c t h m before soon =
        let r : (x.server.server.clock ≤ clock) × (s'.server.up ≡ true) × (s'.server.clock ≡ clock) = q.onward clock o in
        let e : b.world.clients c ≡ (x.clients m.place).state.holder = b.clients m.place c m.within m.own in
        let n : (d : Lead) × (noted y w.leads m.place ≡ Some d) × At d (x.clients m.place).state.holder.clock s'.server.clock =
        noted_now y w.leads m.place q.clock (and_from _ _ r.1 (and_from _ _ (is_up k x w f c t h m) (ap is_some m.own))) in
        let p : (d : Lead) × (noted y w.leads m.place ≡ Some d) × Wider m.lead d = noted_wider y w.leads m.place m.lead m.noted in
        let z : p.0 ≡ n.0 = same_Some _ _ (sym p.1 ∙ n.1) in
        let a₃ : m.lead.most ≤ n.0.most = subst (λ (d : Lead). m.lead.most ≤ d.most) z p.2.most in
        let g : n.0.most ≤ n.0.least + k.skew = slim m.place m.within (q.known m.known) n.0 n.1 in
        let c₁ : (b.world.clients c).clock ≡ (x.clients m.place).state.holder.clock = ap (λ (z : core.Client). z.clock) e in
        let a₁ : n.0.least + s'.server.clock ≤ (x.clients m.place).state.holder.clock + 2 ^ 63 = n.2.0 in
        let a₂ : t + 2 ^ 63 ≤ m.lead.most + h = m.at.1 in
        omega (arith, c₁, a₁, a₂, a₃, g, soon, r.2)

    leans : Leans k S q.cause b.world
    leans =
        record {
          requested = λ r e. b.requests r (q.requested r e).0;
          onward = λ clock e. (omega (arith, (q.onward clock e).0, here.0), fine_rising clock e);
          fine = fine_now;
          noted = λ r e up c cup.
              let i : (i : ℕ) × (i < places) × ((x.clients i).state.own ≡ Some c) = b.owned c cup in
              let g : b.world.clients c ≡ (x.clients i.0).state.holder = b.clients i.0 c i.1 i.2 in
              let n : Near (x.clients i.0).state.holder.clock b.world.server.clock (w.leads i.0) =
              f.near i.0 c i.1 i.2 (ap (λ (z : core.Client). z.up) (sym g) ∙ cup) (here.1 ∙ up) in
              let c₁ : (b.world.clients c).clock ≡ (x.clients i.0).state.holder.clock = ap (λ (z : core.Client). z.clock) g in
              record {
                known = (q.requested r e).1;
                place = i.0;
                within = i.1;
                own = i.2;
                lead = n.lead;
                noted = n.noted;
                at = (omega (arith, c₁, n.at.0), omega (arith, c₁, n.at.1));
              };
        }

    moments : (c t h : ℕ) → S c t h → Moment y v₀ c t h
    moments c t h m = record { known = q.known m.known; place = m.place; within = m.within; own = m.own; lead = m.lead; noted = m.noted; at = m.at }

    served : gs ≡ sent k q.events (model_of k x.server) → Base k 0 y v₀
    unfolding ticked
    served e =
        let l : Lifts k S q.cause b.world q.events = lift k S q.cause q.untimed q.events b.world b.sound b.tidy q.heard leans in
        let s : model_of k x.server ≡ b.world.server = b.server in
        let ms : l.world.messages ≡ sent_on gs b.world.messages =
        l.messages ∙ ap (λ (z : core.Server). sent_on (sent k q.events z) b.world.messages) (sym s) ∙ ap (λ (z : List given.Grant). sent_on z b.world.messages) (sym e) in
        let cl : l.world.clients ≡ b.world.clients = l.clients in
        record {
          world = l.world;
          sound = same k S (Moment y v₀) l.world l.sound moments;
          tidy = l.tidy;
          server = q.state ∙ ap (occur k q.events) s ∙ sym l.server;
          home = q.home;
          clock = q.clock;
          clients = λ i c i< o. ap (λ (z : ℕ → core.Client). z c) cl ∙ b.clients i c i< o;
          owned = λ c up. b.owned c (ap (λ (z : ℕ → core.Client). (z c).up) (sym cl) ∙ up);
          idle = b.idle;
          alone = b.alone;
          agreed = b.agreed;
          told = q.told;
          requests = λ r g. subst (λ (z : List Message). In (Requests r) z) (sym ms) (still_sent (Requests r) gs b.world.messages (b.requests r g));
          grants = λ g h. subst (λ (z : List Message). In (Grants g) z) (sym ms)
              (elim (granted_either g gs w.grants h) [
                | inl i ↦ now_sent g gs b.world.messages i
                | inr i ↦ still_sent (Grants g) gs b.world.messages (b.grants g i)
              ]);
          queues = subst (λ (z : List ℕ). Queues y v₀ z) (sym l.drawn)
              (record { distinct = b.queues.distinct; apart = b.queues.apart; unused = b.queues.unused; lent = b.queues.lent; spent = b.queues.spent });
          quiet = b.quiet;
        }

    pub server-follows : gs ≡ sent k q.events (model_of k x.server) → Judged k y (with_leads (noted y w.leads) v₀)
    server-follows e = judge k 0 y v₀ (served e) slim
