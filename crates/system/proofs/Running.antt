-- Each event keeps a run with its world of the lending core, as long as no premise is broken.
-- Assumes nothing.
use Rattle.std.proofs.Common.{◌≡◌, ℕ, suc, ◌+◌, ◌^◌, ◌<◌, Bool, true, false, ◌&&◌, ltb, leb, List, [], is_some, Some, None, Option, sym, refl, ap, ◌∙◌, subst, inl, inr, arith}
use Rattle.std.specs.Option.{option_map}
use Rattle.std.proofs.lemmas.Bool.{both_ways, cases_Bool, cond_both, cond-false, leb-false}
use Rattle.lease.specs.declared.fault.Fault.TheVariants.{CountExhausted}
use Rattle.lease.specs.Settings as model
use Rattle.lease.specs.World as core
use Rattle.lease.specs.Run.{over, server_passes}
use Rattle.lease.proofs.Sound.{same}
use Rattle.lease.proofs.History.{passes-clock}
use Rattle.wire.specs.declared.message.Message.{Message}
use Rattle.wire.specs.declared.message.Message.TheVariants as message
use Rattle.wire.specs.declared.reader.Reader.TheVariants as reader
use Rattle.wire.specs.Decode.{answered}
use Rattle.wire.specs.Read.{read}
use Rattle.server.specs.Server as server
use Rattle.server.specs.Server.{answers, hears, is_lost, refuses, silently, understood, with_server}
use Rattle.journal.specs.Crash.{Cut}
use Rattle.journal.specs.Device.{Device, chosen}
use Rattle.server.specs.Refines.{cause_in, model_of}
use Rattle.server.proofs.Refining.{tick_stands, ticks-on}
use Rattle.system.specs.Parties.{Parties, Event, ToServer, ToClient, Cuts, Damages, Within, Outcome, cut_by, damaged_by, happens, places, sends, server_does, with_device}
use Rattle.system.specs.Watch.{Watch, apart, differ, exhausts, grants, is_tick, is_tick_in, knows, noted, or_first, watched}
use Rattle.system.proofs.Watching.{Unbroken, narrow}
use Rattle.system.proofs.Following.{Moment, Home, Base, Judged, Follows, ticked, judge}
use Rattle.system.proofs.ServerEvents.{Serves, server-follows}
use Rattle.system.proofs.Serving as serving
use Rattle.system.proofs.Serving.{told-first}
use Rattle.system.proofs.ClientTurns.{client-base}

-- the message that is a tick
tick_is : (o : Option Message) → is_tick_in o ≡ true → o ≡ Some message.Tick
tick_is None e = absurd (both_ways false refl e)
tick_is (Some (message.Request r)) e = absurd (both_ways false refl e)
tick_is (Some (message.Grant g)) e = absurd (both_ways false refl e)
tick_is (Some (message.Settings n t k)) e = absurd (both_ways false refl e)
tick_is (Some message.Tick) e = refl
tick_is (Some message.Crash) e = absurd (both_ways false refl e)
tick_is (Some (message.Restart n)) e = absurd (both_ways false refl e)
tick_is (Some (message.OwnNumber n)) e = absurd (both_ways false refl e)
tick_is (Some (message.Nonce n)) e = absurd (both_ways false refl e)
tick_is (Some (message.InUse a u)) e = absurd (both_ways false refl e)
tick_is (Some message.NoAddress) e = absurd (both_ways false refl e)
tick_is (Some (message.Fault f)) e = absurd (both_ways false refl e)

-- A TICK OF THE SERVER
module _ (k : model.Settings) (p : ℕ) (x : Parties) (w : Watch) (b : Base k p x w) where
  abbrev s : server.State
  s = x.server

  abbrev later : server.State
  later = with_server (server_passes 1 s.server) s

  tick_model : Home k s → model_of k later ≡ server_passes 1 (model_of k s)
  tick_model (inl st) = ticks-on k s st
  tick_model (inr un) =
      let o : Bool = over (s.server.clock + 1) s.server.up s.server.silent in
      let e : o ≡ false = ap (λ (z : Option ℕ). over (s.server.clock + 1) s.server.up z) un.quiet in
      ap (λ (v : core.Server). model_of k (with_server v s)) (cond-false o _ _ e) ∙ sym (cond-false o _ _ e)

  tick_home : Home k s → Home k later
  tick_home (inl st) = inl (tick_stands k s st)
  tick_home (inr un) =
      let o : Bool = over (s.server.clock + 1) s.server.up s.server.silent in
      let e : o ≡ false = ap (λ (z : Option ℕ). over (s.server.clock + 1) s.server.up z) un.quiet in
      inr (record { unknown = un.unknown; new = un.new; quiet = ap (λ (v : core.Server). v.silent) (cond-false o _ _ e) ∙ un.quiet })

  abbrev y : Parties
  y = record { server = later; clients = x.clients }

  abbrev v₀ : Watch
  v₀ = record { requests = w.requests; grants = w.grants; nonces = w.nonces; settings = or_first w.settings s.settings; leads = w.leads }

  ticks-base : s.server.clock + 1 < 2 ^ 63 → Base k (suc p) y v₀
  unfolding ticked
  ticks-base low =
      let c : ((server_passes 1 s.server).clock ≡ s.server.clock + 1) × ((server_passes 1 s.server).up ≡ s.server.up) = passes-clock 1 s.server in
      let known : is_some w.settings ≡ true → is_some v₀.settings ≡ true = told-first w.settings s.settings in
      record {
        world = b.world;
        sound = same k (Moment x w) (Moment y v₀) b.world b.sound
            (λ c t h m. record { known = known m.known; place = m.place; within = m.within; own = m.own; lead = m.lead; noted = m.noted; at = m.at });
        tidy = b.tidy;
        server = tick_model b.home ∙ ap (server_passes 1) b.server;
        home = tick_home b.home;
        clock = omega (arith, c.0, low);
        clients = b.clients;
        owned = b.owned;
        idle = b.idle;
        alone = b.alone;
        agreed = b.agreed;
        told = λ j e. ((b.told j e).0, known (b.told j e).1);
        requests = b.requests;
        grants = b.grants;
        queues = record { distinct = b.queues.distinct; apart = b.queues.apart; unused = b.queues.unused; lent = b.queues.lent; spent = b.queues.spent };
        quiet = b.quiet;
      }

  -- where it is taken
  abbrev Good : server.Step → Type 0
  Good t = exhausts (sends t.effects) ≡ false → (bs : List ℕ) → Base k (suc p) (server_does t x).parties (watched false (ToServer bs) (server_does t x) w)

  pub server-ticks : (bs : List ℕ) → read bs ≡ Some message.Tick → Good (hears bs s)
  unfolding hears exhausts sends grants
  server-ticks bs e =
      subst (λ (o : Option Message). Good (answers (answered reader.Server (option_map server.size s.settings) o) s)) (sym e)
      (cond_both (leb (2 ^ 63) (s.server.clock + 1)) (refuses CountExhausted s) (silently later) (λ (t : server.Step). Good t)
      (λ f c. absurd (both_ways true c refl))
      (λ f c bs. ticks-base (leb-false (2 ^ 63) (s.server.clock + 1) f)))

-- ANY EVENT
module _ (k : model.Settings) (x : Parties) (w : Watch) (judged : Bool) where
  -- what an event has to leave, where it breaks no premise
  abbrev Kept : Event → Outcome → Type 0
  Kept e o = Unbroken e x o w (watched judged e o w) → ((j : model.Settings) → (watched judged e o w).settings ≡ Some j → j ≡ k) → Follows k judged o.parties (watched judged e o w)

  -- from before the moment is judged
  settle : (e : Event) (o : Outcome) → (p : ℕ) → ((u : Unbroken e x o w (watched judged e o w)) → ((j : model.Settings) → (watched judged e o w).settings ≡ Some j → j ≡ k) → Base k p o.parties (watched false e o w)) →
      Kept e o
  settle e o p f u fin = by_judgement judged refl
    where
      by_judgement : (g : Bool) → judged ≡ g → Follows k judged o.parties (watched judged e o w)
      by_judgement true h =
          subst (λ (z : Bool). Follows k z o.parties (watched z e o w)) (sym h)
          (judge k p o.parties (watched false e o w) (f u fin)
          (narrow k (watched true e o w).settings (watched true e o w).leads (subst (λ (z : Bool). (j : model.Settings) → (watched z e o w).settings ≡ Some j → j ≡ k) h fin)
          (subst (λ (z : Bool). Unbroken e x o w (watched z e o w)) h u).near))
      by_judgement false h = subst (λ (z : Bool). Follows k z o.parties (watched z e o w)) (sym h) (p, f u fin)

  -- from any moment on
  client_event : (p : ℕ) → Base k p x w → (i : ℕ) (bs : List ℕ) → i < places → Kept (ToClient i bs) (happens (ToClient i bs) x)
  client_event p b i bs i< = settle (ToClient i bs) (happens (ToClient i bs) x) p (λ u fin. client-base k p x w b i i< bs judged u fin)

  server_tick : (p : ℕ) → Base k p x w → (bs : List ℕ) → is_tick_in (read bs) ≡ true → Kept (ToServer bs) (happens (ToServer bs) x)
  server_tick p b bs e = settle (ToServer bs) (happens (ToServer bs) x) (suc p) (λ u fin. server-ticks k p x w b bs (tick_is (read bs) e) u.counts bs)

-- an event of the server that is no tick, at a moment that was judged
module _ (k : model.Settings) (x : Parties) (w : Watch) (f : Judged k x w) where
  abbrev b : Base k 0 x w
  b = f.base

  abbrev Served : Event → server.Step → Type 0
  Served e t = Unbroken e x (server_does t x) w (watched true e (server_does t x) w) → ((j : model.Settings) → (watched true e (server_does t x) w).settings ≡ Some j → j ≡ k) →
      Judged k (server_does t x).parties (watched true e (server_does t x) w)

  hears_event : (bs : List ℕ) → is_tick_in (read bs) ≡ false → Served (ToServer bs) (hears bs x.server)
  hears_event bs calm u fin =
      let t : server.Step = hears bs x.server in
      let g : serving.Good k x w b t = elim b.home [
        | inl st ↦ serving.settled-hears k x w b st bs calm u.sent u.forward
        | inr un ↦ serving.unsettled_hears k x w b un bs calm u.forward
      ] in
      let q : (q : Serves k x w t.state (or_first w.settings t.state.settings)) × _ = g u.counts u.settings fin in
      server-follows k x w f t.state (or_first w.settings t.state.settings) q.0 (grants (sends t.effects))
      (narrow k (or_first w.settings t.state.settings) (watched true (ToServer bs) (server_does t x) w).leads fin u.near) q.1

  told_none : (o : Option ℕ) → grants (sends (server.tells o)) ≡ []
  unfolding grants sends
  told_none None = refl
  told_none (Some u) = refl

  damage_none : (o : Option model.Settings) (d : Device) (clock : ℕ) → grants (sends (damaged_by o d clock x.server).effects) ≡ []
  unfolding grants sends
  damage_none None d clock = refl
  damage_none (Some j) d clock =
      cond_both (is_lost (chosen 4096 d) && ltb clock (2 ^ 63)) (server.reads j clock (with_device d x.server)) (silently x.server) (λ (t : server.Step). grants (sends t.effects) ≡ [])
      (λ e. told_none (server.rereads j clock d x.server.server).silent) (λ e. refl)

  -- a step that sends no grant
  unsent_event : (e : Event) (t : server.Step) → serving.Good k x w b t → grants (sends t.effects) ≡ [] →
      watched true e (server_does t x) w ≡ record { requests = w.requests; grants = w.grants; nonces = w.nonces; settings = or_first w.settings t.state.settings; leads = noted (server_does t x).parties w.leads } →
      knows e (server_does t x).parties ≡ t.state.settings → Served e t
  unsent_event e t g none v kn u fin =
      let st : Option model.Settings = or_first w.settings t.state.settings in
      let same : (watched true e (server_does t x) w).settings ≡ st = ap (λ (z : Watch). z.settings) v in
      let fin' : (j : model.Settings) → st ≡ Some j → j ≡ k = λ j h. fin j (same ∙ h) in
      let dif : differ st t.state.settings ≡ false = ap (λ (z : Option model.Settings). differ st z) (sym kn) ∙ ap (λ (z : Option model.Settings). differ z (knows e (server_does t x).parties)) (sym same) ∙ u.settings in
      let q : (q : Serves k x w t.state st) × _ = g u.counts dif fin' in
      let near : apart st (noted (server_does t x).parties w.leads) ≡ false = subst (λ (z : Watch). apart z.settings z.leads ≡ false) v u.near in
      subst (λ (z : Watch). Judged k (server_does t x).parties z) (sym v)
      (server-follows k x w f t.state st q.0 [] (narrow k st (noted (server_does t x).parties w.leads) fin' near) (sym none ∙ q.1))

  cut_event : (bs : List ℕ) (n : ℕ) (c : Cut) → Served (Cuts bs n c) (silently (cut_by x.server.settings (cause_in (understood bs x.server)) n c x.server))
  unfolding grants sends
  cut_event bs n c u fin =
      unsent_event (Cuts bs n c) (silently (cut_by x.server.settings (cause_in (understood bs x.server)) n c x.server))
      (elim b.home [
        | inl st ↦ serving.settled-cut k x w b st bs n c u.sent
        | inr un ↦ serving.unsettled_cut k x w b un bs n c
      ]) refl refl refl u fin

  damage_event : (d : Device) (clock : ℕ) → Served (Damages d clock) (damaged_by x.server.settings d clock x.server)
  damage_event d clock u fin =
      unsent_event (Damages d clock) (damaged_by x.server.settings d clock x.server)
      (elim b.home [
        | inl st ↦ serving.settled_damaged k x w b st d clock u.forward
        | inr un ↦ serving.unsettled_damaged k x w b un d clock
      ]) (damage_none x.server.settings d clock) refl refl u fin

-- ONE STEP OF A RUN: ticks follow each other unjudged, everything else is judged
module _ (k : model.Settings) (x : Parties) (w : Watch) where
  base-of : (j : Bool) → Follows k j x w → (p : ℕ) × Base k p x w
  base-of true f = (0, f.base)
  base-of false f = f

  judged-of : (j : Bool) → Follows k j x w → (j ≡ false → ⊥) → Judged k x w
  judged-of true f h = f
  judged-of false f h = absurd (h refl)

  only_judged : (e : Event) (judged : Bool) → (judged ≡ false → ⊥) → Kept k x w true e (happens e x) → Kept k x w judged e (happens e x)
  only_judged e true h f = f
  only_judged e false h f = absurd (h refl)

  pub one_event : (j judged : Bool) (e : Event) → Within e → Follows k j x w → (j ≡ false → is_tick e ≡ true) → (judged ≡ false → is_tick e ≡ true) → Kept k x w judged e (happens e x)
  one_event j judged (ToServer bs) i f before now =
      elim (cases_Bool (is_tick_in (read bs))) [
        | inl t ↦ let p : (p : ℕ) × Base k p x w = base-of j f in server_tick k x w judged p.0 p.1 bs t
        | inr t ↦ only_judged (ToServer bs) judged (λ e. both_ways _ t (now e)) (hears_event k x w (judged-of j f (λ e. both_ways _ t (before e))) bs t)
      ]
  one_event j judged (ToClient i bs) l f before now = let p : (p : ℕ) × Base k p x w = base-of j f in client_event k x w judged p.0 p.1 i bs l
  one_event j judged (Cuts bs n c) i f before now =
      only_judged (Cuts bs n c) judged (λ e. both_ways false refl (now e)) (cut_event k x w (judged-of j f (λ e. both_ways false refl (before e))) bs n c)
  one_event j judged (Damages d clock) i f before now =
      only_judged (Damages d clock) judged (λ e. both_ways false refl (now e)) (damage_event k x w (judged-of j f (λ e. both_ways false refl (before e))) d clock)
