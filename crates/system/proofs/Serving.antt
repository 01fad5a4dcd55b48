-- What the server does at an event that is no tick, as events of the lending core.
-- Assumes nothing.
use Rattle.std.proofs.Common.{◌≡◌, ℕ, ◌+◌, ◌^◌, ◌<◌, ◌≤◌, Bool, true, false, ◌&&◌, ◌||◌, ltb, leb, List, [], ◌∷◌, is_some, Some, None, Ok, Err, Option, sym, refl, ap, ◌∙◌, subst, inl, inr, arith}
use Rattle.std.specs.Option.{option_map}
use Rattle.std.proofs.lemmas.Bool.{both_ways, cases_Bool, cond_both, cond-true, cond-false, leb-true, leb-false, ltb-true, ltb-false, lt-ltb, and_parts, not-false}
use Rattle.lease.specs.declared.fault.Fault as lease
use Rattle.lease.specs.declared.fault.Fault.TheVariants.{CountExhausted}
use Rattle.lease.specs.Run as lent
use Rattle.lease.specs.declared.message.Grant as given
use Rattle.lease.specs.declared.message.Request as asked
use Rattle.lease.specs.Settings as model
use Rattle.lease.specs.Settings.{valid}
use Rattle.lease.specs.World as core
use Rattle.lease.specs.World.{is_silent}
use Rattle.lease.specs.Table.{Table, empty}
use Rattle.lease.specs.Run.{answer, crashes}
use Rattle.lease.specs.Stands.{with_table}
use Rattle.std.proofs.lemmas.Option.{none-some, same_Some}
use Rattle.lease.proofs.History.{restarts-clock}
use Rattle.wire.specs.declared.message.Message.{Message}
use Rattle.wire.specs.declared.message.Message.TheVariants as message
use Rattle.wire.specs.declared.reader.Reader.{Reader}
use Rattle.wire.specs.declared.reader.Reader.TheVariants as reader
use Rattle.wire.specs.Decode.{Answer, answered, judged}
use Rattle.wire.specs.Read.{read}
use Rattle.wire.proofs.Judgement.{by_judgement, refusal}
use Rattle.journal.specs.Device.{Choice, Device, New, chosen, cursor, is_found}
use Rattle.journal.specs.Crash.{Cut}
use Rattle.journal.proofs.Choosing.{choice-tells}
use Rattle.server.specs.declared.effect.Effect.{Effect}
use Rattle.server.specs.declared.effect.Effect.TheVariants.{Persist, Send}
use Rattle.server.specs.Server as server
use Rattle.server.specs.Server.{answers, comes_back, hears, is_lost, pooled, reads, refuses, rereads, restarted, rises, settles, silently, understood, with_server}
use Rattle.server.specs.Refines.{AllFrom, Asking, Cause, Crashes, Event, Falling, Other, Refines, Restarts, Rising, Stands, Time, cause_in, grants_in, model_of, occur, sent}
use Rattle.server.proofs.Refining.{cut-refines-all, pooled-none, settling-stands, step-refines}
use Rattle.system.specs.Parties.{Parties, blank, cut_answer, cut_by, damaged_by, sends, with_device}
use Rattle.system.specs.Watch.{Watch, below, differ, exhausts, grants, is_tick_in, or_first, requested, start_in, unsent_request}
use Rattle.system.proofs.Watching.{known-first}
use Rattle.system.proofs.Following.{Base, Unsettled}
use Rattle.system.proofs.ServerEvents.{Serves, clock_by}

-- WHAT A CAUSE SAYS of the bytes
pub understood-read : (r : Reader) (n : Option ℕ) (o : Option Message) (m : Message) → answered r n o ≡ Ok m → o ≡ Some m
understood-read r n None m e = absurd (refusal _ m e)
understood-read r n (Some a) m e = (by_judgement r n a m e).0

pub asking_in : (a : Answer) (r : asked.Request) → cause_in a ≡ Asking r → a ≡ Ok (message.Request r)
asking_in (Ok (message.Request q)) r e = let s : q ≡ r = cc in ap (λ (z : asked.Request). Ok (message.Request z)) s
asking_in (Ok (message.Grant g)) r e = absurd (let z : ◌≡◌ {A = ℕ} 0 1 = cc in omega arith)
asking_in (Ok (message.Settings n t k)) r e = absurd (let z : ◌≡◌ {A = ℕ} 0 1 = cc in omega arith)
asking_in (Ok message.Tick) r e = absurd (let z : ◌≡◌ {A = ℕ} 0 1 = cc in omega arith)
asking_in (Ok message.Crash) r e = absurd (let z : ◌≡◌ {A = ℕ} 0 1 = cc in omega arith)
asking_in (Ok (message.Restart clock)) r e = absurd (let z : ◌≡◌ {A = ℕ} 0 1 = cc in omega arith)
asking_in (Ok (message.OwnNumber n)) r e = absurd (let z : ◌≡◌ {A = ℕ} 0 1 = cc in omega arith)
asking_in (Ok (message.Nonce n)) r e = absurd (let z : ◌≡◌ {A = ℕ} 0 1 = cc in omega arith)
asking_in (Ok (message.InUse a u)) r e = absurd (let z : ◌≡◌ {A = ℕ} 0 1 = cc in omega arith)
asking_in (Ok message.NoAddress) r e = absurd (let z : ◌≡◌ {A = ℕ} 0 1 = cc in omega arith)
asking_in (Ok (message.Fault f)) r e = absurd (let z : ◌≡◌ {A = ℕ} 0 1 = cc in omega arith)
asking_in (Err f) r e = absurd (let z : ◌≡◌ {A = ℕ} 0 1 = cc in omega arith)

pub rising_in : (a : Answer) (clock : ℕ) → cause_in a ≡ Rising clock → a ≡ Ok (message.Restart clock)
rising_in (Ok (message.Request q)) clock e = absurd (let z : ◌≡◌ {A = ℕ} 0 1 = cc in omega arith)
rising_in (Ok (message.Grant g)) clock e = absurd (let z : ◌≡◌ {A = ℕ} 0 1 = cc in omega arith)
rising_in (Ok (message.Settings n t k)) clock e = absurd (let z : ◌≡◌ {A = ℕ} 0 1 = cc in omega arith)
rising_in (Ok message.Tick) clock e = absurd (let z : ◌≡◌ {A = ℕ} 0 1 = cc in omega arith)
rising_in (Ok message.Crash) clock e = absurd (let z : ◌≡◌ {A = ℕ} 0 1 = cc in omega arith)
rising_in (Ok (message.Restart n)) clock e = let s : n ≡ clock = cc in ap (λ (z : ℕ). Ok (message.Restart z)) s
rising_in (Ok (message.OwnNumber n)) clock e = absurd (let z : ◌≡◌ {A = ℕ} 0 1 = cc in omega arith)
rising_in (Ok (message.Nonce n)) clock e = absurd (let z : ◌≡◌ {A = ℕ} 0 1 = cc in omega arith)
rising_in (Ok (message.InUse a u)) clock e = absurd (let z : ◌≡◌ {A = ℕ} 0 1 = cc in omega arith)
rising_in (Ok message.NoAddress) clock e = absurd (let z : ◌≡◌ {A = ℕ} 0 1 = cc in omega arith)
rising_in (Ok (message.Fault f)) clock e = absurd (let z : ◌≡◌ {A = ℕ} 0 1 = cc in omega arith)
rising_in (Err f) clock e = absurd (let z : ◌≡◌ {A = ℕ} 0 1 = cc in omega arith)

pub time_in : (a : Answer) → cause_in a ≡ Time → a ≡ Ok message.Tick
time_in (Ok (message.Request q)) e = absurd (let z : ◌≡◌ {A = ℕ} 0 1 = cc in omega arith)
time_in (Ok (message.Grant g)) e = absurd (let z : ◌≡◌ {A = ℕ} 0 1 = cc in omega arith)
time_in (Ok (message.Settings n t k)) e = absurd (let z : ◌≡◌ {A = ℕ} 0 1 = cc in omega arith)
time_in (Ok message.Tick) e = refl
time_in (Ok message.Crash) e = absurd (let z : ◌≡◌ {A = ℕ} 0 1 = cc in omega arith)
time_in (Ok (message.Restart n)) e = absurd (let z : ◌≡◌ {A = ℕ} 0 1 = cc in omega arith)
time_in (Ok (message.OwnNumber n)) e = absurd (let z : ◌≡◌ {A = ℕ} 0 1 = cc in omega arith)
time_in (Ok (message.Nonce n)) e = absurd (let z : ◌≡◌ {A = ℕ} 0 1 = cc in omega arith)
time_in (Ok (message.InUse a u)) e = absurd (let z : ◌≡◌ {A = ℕ} 0 1 = cc in omega arith)
time_in (Ok message.NoAddress) e = absurd (let z : ◌≡◌ {A = ℕ} 0 1 = cc in omega arith)
time_in (Ok (message.Fault f)) e = absurd (let z : ◌≡◌ {A = ℕ} 0 1 = cc in omega arith)
time_in (Err f) e = absurd (let z : ◌≡◌ {A = ℕ} 0 1 = cc in omega arith)

pub grants-sent : (es : List Effect) → grants (sends es) ≡ grants_in es
unfolding grants sends
grants-sent [] = refl
grants-sent (Persist w ∷ es) = grants-sent es
grants-sent (Send (message.Request r) ∷ es) = grants-sent es
grants-sent (Send (message.Grant g) ∷ es) = ap (λ (z : List given.Grant). g ∷ z) (grants-sent es)
grants-sent (Send (message.Settings n t k) ∷ es) = grants-sent es
grants-sent (Send message.Tick ∷ es) = grants-sent es
grants-sent (Send message.Crash ∷ es) = grants-sent es
grants-sent (Send (message.Restart n) ∷ es) = grants-sent es
grants-sent (Send (message.OwnNumber n) ∷ es) = grants-sent es
grants-sent (Send (message.Nonce n) ∷ es) = grants-sent es
grants-sent (Send (message.InUse a u) ∷ es) = grants-sent es
grants-sent (Send message.NoAddress ∷ es) = grants-sent es
grants-sent (Send (message.Fault f) ∷ es) = grants-sent es

pub told-first : (o n : Option model.Settings) → is_some o ≡ true → is_some (or_first o n) ≡ true
told-first None n e = absurd (both_ways false refl e)
told-first (Some k) n e = refl

-- a clock that isn't below
pub not-below : (clock n : ℕ) → clock < 2 ^ 63 → below (start_in (Some (message.Restart clock))) n ≡ false → n ≤ clock
not-below clock n l e =
    let s : start_in (Some (message.Restart clock)) ≡ Some clock = cond-true (ltb clock (2 ^ 63)) _ _ (lt-ltb clock (2 ^ 63) l) in
    ltb-false clock n (ap (λ (o : Option ℕ). below o n) (sym s) ∙ e)

same_rising : (n m : ℕ) → Rising n ≡ Rising m → n ≡ m
same_rising n m e = cc

module _ (k : model.Settings) (x : Parties) (w : Watch) (b : Base k 0 x w) where
  abbrev s : server.State
  s = x.server

  abbrev after : server.Step → Option model.Settings
  after t = or_first w.settings t.state.settings

  -- what a step has to be, where it breaks no premise
  abbrev pub Good : server.Step → Type 0
  Good t = exhausts (sends t.effects) ≡ false → differ (after t) t.state.settings ≡ false → ((j : model.Settings) → after t ≡ Some j → j ≡ k) →
      (q : Serves k x w t.state (after t)) × (grants (sends t.effects) ≡ sent k q.events (model_of k s))

  no_cause : (o : Cause) → o ≡ Other → (o ≡ Time → ⊥) × ((r : asked.Request) → o ≡ Asking r → ⊥) × ((clock : ℕ) → o ≡ Rising clock → ⊥)
  no_cause o e = (
    λ f. (let z : ◌≡◌ {A = ℕ} 0 1 = cc in omega arith),
    λ r f. (let z : ◌≡◌ {A = ℕ} 0 1 = cc in omega arith),
    λ n f. (let z : ◌≡◌ {A = ℕ} 0 1 = cc in omega arith),
  )

  -- nothing happens
  pub idly : (es : List Effect) → grants (sends es) ≡ [] → Good (record { state = s; effects = es })
  idly es none c d f =
      let n : _ × _ × _ = no_cause Other refl in (
        record {
          cause = Other;
          untimed = n.0;
          events = [];
          heard = tt;
          state = refl;
          requested = λ r e. absurd (n.1 r e);
          onward = λ clock e. absurd (n.2 clock e);
          home = b.home;
          clock = b.clock;
          known = told-first w.settings s.settings;
          told = λ j e. ((b.told j e).0, told-first w.settings s.settings (b.told j e).1);
        },
        none,
      )

  pub refusing : (f : lease.Fault) → Good (refuses f s)
  unfolding grants sends
  refusing f = idly (Send (message.Fault f) ∷ []) refl

  pub quietly : Good (silently s)
  unfolding grants sends
  quietly = idly [] refl

  -- A SERVER THAT KNOWS ITS SETTINGS
  module _ (st : Stands k s) where
    knows-all : is_some w.settings ≡ true
    knows-all = (b.told k st.settled).1

    -- by what it refines
    refined : (t : server.State) (es : List Effect) (o : Cause) → (o ≡ Time → ⊥) → Refines k s t (grants_in es) o →
        ((r : asked.Request) → o ≡ Asking r → requested r w.requests ≡ true) →
        ((clock : ℕ) → o ≡ Rising clock → (clock < 2 ^ 63) × (s.server.clock ≤ clock) × (t.server.up ≡ true) × (t.server.clock ≡ clock)) → Good (record { state = t; effects = es })
    refined t es o untimed r req on c d f = (
      record {
        cause = o;
        untimed = untimed;
        events = r.events;
        heard = r.heard;
        state = r.state;
        requested = λ q e. (req q e, knows-all);
        onward = λ clock e. ((on clock e).1, (on clock e).2, (on clock e).3);
        home = inl r.stands;
        clock = elim (clock_by k o untimed r.events (model_of k s) r.heard) [
          | inl e ↦ let z : t.server.clock ≡ s.server.clock = ap (λ (v : core.Server). v.clock) r.state ∙ e in omega (arith, z, b.clock)
          | inr e ↦
              let z : t.server.clock ≡ (occur k r.events (model_of k s)).clock = ap (λ (v : core.Server). v.clock) r.state in
              omega (arith, z, (on _ e).0)
        ];
        known = told-first w.settings t.settings;
        told = λ j e. (same_Some j k (sym e ∙ r.stands.settled), told-first w.settings t.settings knows-all);
      },
      grants-sent es ∙ r.sends,
    )

    -- it restarts
    restarting : (clock : ℕ) → exhausts (sends (restarted clock s).effects) ≡ false → below (start_in (Some (message.Restart clock))) s.server.clock ≡ false →
        (clock < 2 ^ 63) × (s.server.clock ≤ clock) × ((restarted clock s).state.server.up ≡ true) × ((restarted clock s).state.server.clock ≡ clock)
    unfolding exhausts sends
    restarting clock c low =
        elim (cases_Bool (leb (2 ^ 63) clock)) [
          | inl e ↦ absurd (both_ways _ (subst (λ (t : server.Step). exhausts (sends t.effects) ≡ false) (cond-true (leb (2 ^ 63) clock) _ _ e) c) refl)
          | inr e ↦
              let l : clock < 2 ^ 63 = leb-false (2 ^ 63) clock e in
              let z : restarted clock s ≡ reads k clock s = cond-false (leb (2 ^ 63) clock) _ _ e ∙ ap (λ (o : Option model.Settings). comes_back o clock s) st.settled in
              let r : ((reads k clock s).state.server.clock ≡ clock) × ((reads k clock s).state.server.up ≡ true) = restarts-clock k clock (is_lost (chosen 4096 s.device)) (with_table s.server (pooled k.addresses s.device)) in
              (l, not-below clock s.server.clock l low, ap (λ (t : server.Step). t.state.server.up) z ∙ r.1, ap (λ (t : server.Step). t.state.server.clock) z ∙ r.0)
        ]

    at_restart : (bs : List ℕ) (clock : ℕ) → exhausts (sends (hears bs s).effects) ≡ false → understood bs s ≡ Ok (message.Restart clock) → below (start_in (Some (message.Restart clock))) s.server.clock ≡ false →
        (clock < 2 ^ 63) × (s.server.clock ≤ clock) × ((hears bs s).state.server.up ≡ true) × ((hears bs s).state.server.clock ≡ clock)
    unfolding hears
    at_restart bs clock c u low =
        let z : hears bs s ≡ restarted clock s = ap (λ (a : Answer). answers a s) u in
        let q : (clock < 2 ^ 63) × (s.server.clock ≤ clock) × ((restarted clock s).state.server.up ≡ true) × ((restarted clock s).state.server.clock ≡ clock) =
        restarting clock (subst (λ (t : server.Step). exhausts (sends t.effects) ≡ false) z c) low in
        (q.0, q.1, ap (λ (t : server.Step). t.state.server.up) z ∙ q.2, ap (λ (t : server.Step). t.state.server.clock) z ∙ q.3)

    pub settled-hears : (bs : List ℕ) → is_tick_in (read bs) ≡ false → unsent_request (read bs) w ≡ false → below (start_in (read bs)) s.server.clock ≡ false → Good (hears bs s)
    settled-hears bs no_tick sent low c =
        let rd : (m : Message) → understood bs s ≡ Ok m → read bs ≡ Some m = λ m e. understood-read reader.Server (option_map server.size s.settings) (read bs) m e in
        refined (hears bs s).state (hears bs s).effects (cause_in (understood bs s))
        (λ e. both_ways _ no_tick (ap is_tick_in (rd message.Tick (time_in _ e))))
        (step-refines k s bs st)
        (λ r e. not-false _ (ap (λ (m : Option Message). unsent_request m w) (sym (rd (message.Request r) (asking_in _ r e))) ∙ sent))
        (λ clock e. at_restart bs clock c (rising_in _ clock e) (ap (λ (m : Option Message). below (start_in m) s.server.clock) (sym (rd (message.Restart clock) (rising_in _ clock e))) ∙ low))
        c

    -- A CRASH WITHIN AN APPEND
    no_asking : (r q : asked.Request) → Asking r ≡ Asking q → r ≡ q
    no_asking r q e = cc

    cut-answer : (r : asked.Request) → requested r w.requests ≡ true → (a : lent.Answer) → answer k s.server r ≡ a → (n : ℕ) (c : Cut) → Good (silently (cut_answer k a n c s))
    cut-answer r was (Ok None) e n c = quietly
    cut-answer r was (Ok (Some g)) e n c =
        refined (cut_answer k (Ok (Some g)) n c s) [] (Asking r) (λ f. (let z : ◌≡◌ {A = ℕ} 0 1 = cc in omega arith)) (cut-refines-all k s r g n c st e)
        (λ q f. subst (λ (z : asked.Request). requested z w.requests ≡ true) (no_asking r q f) was)
        (λ clock f. absurd (let z : ◌≡◌ {A = ℕ} 0 1 = cc in omega arith))
    cut-answer r was (Err f) e n c = quietly

    cut_cause : (bs : List ℕ) → unsent_request (read bs) w ≡ false → (o : Cause) → cause_in (understood bs s) ≡ o → (n : ℕ) (c : Cut) → Good (silently (cut_by (Some k) o n c s))
    cut_cause bs sent Time e n c = quietly
    cut_cause bs sent (Asking r) e n c =
        let rd : read bs ≡ Some (message.Request r) = understood-read reader.Server (option_map server.size s.settings) (read bs) (message.Request r) (asking_in _ r e) in
        cut-answer r (not-false _ (ap (λ (m : Option Message). unsent_request m w) (sym rd) ∙ sent)) (answer k s.server r) refl n c
    cut_cause bs sent Falling e n c = quietly
    cut_cause bs sent (Rising clock) e n c = quietly
    cut_cause bs sent Other e n c = quietly

    pub settled-cut : (bs : List ℕ) (n : ℕ) (c : Cut) → unsent_request (read bs) w ≡ false → Good (silently (cut_by s.settings (cause_in (understood bs s)) n c s))
    settled-cut bs n c sent = subst (λ (o : Option model.Settings). Good (silently (cut_by o (cause_in (understood bs s)) n c s))) (sym st.settled) (cut_cause bs sent (cause_in (understood bs s)) refl n c)

    -- DAMAGE that comes to light at a restart
    module _ (d : Device) (clock : ℕ) (lost : is_lost (chosen 4096 d) ≡ true) where
      abbrev hushed : core.Server
      hushed = record { clock = clock; up = true; silent = Some (clock + model.silence k); table = empty }

      abbrev with : core.Server → server.State
      with v = record { settings = Some k; server = v; device = d; cursor = cursor 4096 d }

      all_hushed : (v : core.Server) → rereads k clock d v ≡ hushed
      all_hushed v = cond-true (is_lost (chosen 4096 d) || is_silent v.silent) _ _ (ap (λ (z : Bool). z || is_silent v.silent) lost)

      not_found : (c : Choice) → is_lost c ≡ true → is_found c ≡ false
      not_found New e = refl
      not_found Choice.Lost e = refl
      not_found (Choice.Found q) e = absurd (both_ways false refl e)

      found_none : is_found (chosen 4096 d) ≡ false
      found_none = not_found (chosen 4096 d) lost

      hushed_stands : Stands k (with hushed)
      hushed_stands =
          let s₀ : server.State = record { settings = None; server = record { clock = clock; up = true; silent = None; table = empty }; device = d; cursor = cursor 4096 d } in
          let r : Stands k (with (rereads k clock d s₀.server)) = (settling-stands k s₀ st.few (inl ((choice-tells 4096 d).none found_none)) refl).stands in
          subst (λ (v : core.Server). Stands k (with v)) (all_hushed s₀.server) r

      damaged_refines : Refines k s (reads k clock (with_device d s)).state (grants_in (reads k clock (with_device d s)).effects) (Rising clock)
      damaged_refines =
          record {
            events = Restarts clock true ∷ [];
            heard = (refl, tt);
            state = ap (λ (v : core.Server). model_of k (with v)) (all_hushed s.server)
                ∙ ap (λ (t : Table). record { clock = clock; up = true; silent = Some (clock + model.silence k); table = t }) (pooled-none k.addresses d found_none);
            sends = ap (λ (v : core.Server). grants_in (server.tells v.silent)) (all_hushed s.server);
            stands = subst (λ (v : core.Server). Stands k (with v)) (sym (all_hushed s.server)) hushed_stands;
          }

    damaging : (d : Device) (clock : ℕ) → below (start_in (Some (message.Restart clock))) s.server.clock ≡ false → Good (damaged_by (Some k) d clock s)
    damaging d clock low =
        cond_both (is_lost (chosen 4096 d) && ltb clock (2 ^ 63)) (reads k clock (with_device d s)) (silently s) (λ (t : server.Step). Good t)
        (λ e.
        let p : (is_lost (chosen 4096 d) ≡ true) × (ltb clock (2 ^ 63) ≡ true) = and_parts _ _ e in
        let l : clock < 2 ^ 63 = ltb-true clock (2 ^ 63) p.1 in
        refined (reads k clock (with_device d s)).state (reads k clock (with_device d s)).effects (Rising clock) (λ f. (let z : ◌≡◌ {A = ℕ} 0 1 = cc in omega arith)) (damaged_refines d clock p.0)
        (λ r f. absurd (let z : ◌≡◌ {A = ℕ} 0 1 = cc in omega arith))
        (λ n f.
        let z : n ≡ clock = same_rising n clock (sym f) in
        let r : ((reads k clock (with_device d s)).state.server.clock ≡ clock) × ((reads k clock (with_device d s)).state.server.up ≡ true) =
        restarts-clock k clock (is_lost (chosen 4096 d)) (with_table s.server (pooled k.addresses d)) in
        (omega (arith, z, l), omega (arith, z, not-below clock s.server.clock l low), r.1, r.0 ∙ sym z)))
        (λ e. quietly)

    pub settled_damaged : (d : Device) (clock : ℕ) → below (start_in (Some (message.Restart clock))) s.server.clock ≡ false → Good (damaged_by s.settings d clock s)
    settled_damaged d clock low = subst (λ (o : Option model.Settings). Good (damaged_by o d clock s)) (sym st.settled) (damaging d clock low)

  -- A SERVER WITHOUT SETTINGS
  module _ (un : Unsettled s) where
    pub unsettled_cut : (bs : List ℕ) (n : ℕ) (c : Cut) → Good (silently (cut_by s.settings (cause_in (understood bs s)) n c s))
    unsettled_cut bs n c = subst (λ (o : Option model.Settings). Good (silently (cut_by o (cause_in (understood bs s)) n c s))) (sym un.unknown) quietly

    pub unsettled_damaged : (d : Device) (clock : ℕ) → Good (damaged_by s.settings d clock s)
    unsettled_damaged d clock = subst (λ (o : Option model.Settings). Good (damaged_by o d clock s)) (sym un.unknown) quietly

    -- it stays without
    unsettled_on : (v : core.Server) (o : Cause) (evs : List Event) → (o ≡ Time → ⊥) → ((r : asked.Request) → o ≡ Asking r → ⊥) → AllFrom o evs → v.silent ≡ None → v.clock < 2 ^ 63 →
        ((clock : ℕ) → o ≡ Rising clock → (s.server.clock ≤ clock) × (v.up ≡ true) × (v.clock ≡ clock)) →
        model_of k (with_server v s) ≡ occur k evs (model_of k s) → sent k evs (model_of k s) ≡ [] → Good (silently (with_server v s))
    unfolding grants sends
    unsettled_on v o evs untimed unasked h quiet low on e none c d f = (
      record {
        cause = o;
        untimed = untimed;
        events = evs;
        heard = h;
        state = e;
        requested = λ r q. absurd (unasked r q);
        onward = on;
        home = inr (record { unknown = un.unknown; new = un.new; quiet = quiet });
        clock = low;
        known = told-first w.settings s.settings;
        told = λ j q. absurd (none-some j (sym un.unknown ∙ q));
      },
      sym none,
    )

    crashing : Good (silently (with_server (crashes s.server) s))
    crashing =
        unsettled_on (crashes s.server) Falling (Crashes ∷ []) (λ f. (let z : ◌≡◌ {A = ℕ} 0 1 = cc in omega arith)) (λ r f. (let z : ◌≡◌ {A = ℕ} 0 1 = cc in omega arith))
        (refl, tt) un.quiet b.clock (λ clock f. absurd (let z : ◌≡◌ {A = ℕ} 0 1 = cc in omega arith)) refl refl

    rising : (clock : ℕ) → clock < 2 ^ 63 → s.server.clock ≤ clock → Good (silently (with_server (rises clock s.server) s))
    rising clock l on =
        unsettled_on (rises clock s.server) (Rising clock) (Restarts clock false ∷ []) (λ f. (let z : ◌≡◌ {A = ℕ} 0 1 = cc in omega arith)) (λ r f. (let z : ◌≡◌ {A = ℕ} 0 1 = cc in omega arith))
        (refl, tt) un.quiet l (λ n f. let z : n ≡ clock = same_rising n clock (sym f) in (omega (arith, z, on), refl, sym z))
        (ap (λ (o : Option ℕ). record { clock = clock; up = true; silent = o; table = (model_of k s).table }) un.quiet
        ∙ sym (cond-false (false || is_silent s.server.silent) _ _ (ap (λ (o : Option ℕ). false || is_silent o) un.quiet))) refl

    restarts-none : (clock : ℕ) → below (start_in (Some (message.Restart clock))) s.server.clock ≡ false → Good (restarted clock s)
    restarts-none clock low =
        cond_both (leb (2 ^ 63) clock) (refuses CountExhausted s) (comes_back s.settings clock s) (λ (t : server.Step). Good t) (λ e. refusing CountExhausted)
        (λ e.
        let l : clock < 2 ^ 63 = leb-false (2 ^ 63) clock e in
        subst (λ (o : Option model.Settings). Good (comes_back o clock s)) (sym un.unknown) (rising clock l (not-below clock s.server.clock l low)))

    -- the settings come
    blank_none : is_found (chosen 4096 s.device) ≡ false
    blank_none =
        subst (λ (d : Device). is_found (chosen 4096 d) ≡ false) (sym un.new)
        (ap is_found ((choice-tells 4096 blank).zeros (λ q i l. refl)))

    has_known : (o : Option model.Settings) → is_some (or_first o (Some k)) ≡ true
    has_known None = refl
    has_known (Some i) = refl

    has_settled : (j : model.Settings) → (settles j s).state.settings ≡ Some j
    has_settled j = cond_both s.server.up (reads j s.server.clock s) _ (λ (t : server.Step). t.state.settings ≡ Some j) (λ u. refl) (λ u. refl)

    knows_then : is_some (or_first w.settings (settles k s).state.settings) ≡ true
    knows_then = ap (λ (o : Option model.Settings). is_some (or_first w.settings o)) (has_settled k) ∙ has_known w.settings

    refines : k.addresses < 4096 → Refines k s (settles k s).state (grants_in (settles k s).effects) (Rising s.server.clock)
    refines few = settling-stands k s few (inl ((choice-tells 4096 s.device).none blank_none)) un.quiet

    up-settles : k.addresses < 4096 → s.server.up ≡ true → Good (settles k s)
    up-settles few up c d f =
        let r : Refines k s (settles k s).state (grants_in (settles k s).effects) (Rising s.server.clock) = refines few in
        let z : settles k s ≡ reads k s.server.clock s = cond-true s.server.up (reads k s.server.clock s) _ up in
        let q : ((reads k s.server.clock s).state.server.clock ≡ s.server.clock) × ((reads k s.server.clock s).state.server.up ≡ true) =
        restarts-clock k s.server.clock (is_lost (chosen 4096 s.device)) (with_table s.server (pooled k.addresses s.device)) in
        let e₁ : (settles k s).state.server.clock ≡ s.server.clock = ap (λ (t : server.Step). t.state.server.clock) z ∙ q.0 in
        let e₂ : (settles k s).state.server.up ≡ true = ap (λ (t : server.Step). t.state.server.up) z ∙ q.1 in (
          record {
            cause = Rising s.server.clock;
            untimed = λ g. (let z : ◌≡◌ {A = ℕ} 0 1 = cc in omega arith);
            events = r.events;
            heard = r.heard;
            state = r.state;
            requested = λ p g. absurd (let z : ◌≡◌ {A = ℕ} 0 1 = cc in omega arith);
            onward = λ n g. let y : n ≡ s.server.clock = same_rising n s.server.clock (sym g) in (omega (arith, y), e₂, e₁ ∙ sym y);
            home = inl r.stands;
            clock = omega (arith, e₁, b.clock);
            known = λ g. knows_then;
            told = λ j g. (same_Some j k (sym g ∙ has_settled k), knows_then);
          },
          grants-sent (settles k s).effects ∙ r.sends,
        )

    down_settles : k.addresses < 4096 → s.server.up ≡ false → Good (settles k s)
    unfolding grants sends
    down_settles few down c d f =
        let z : settles k s ≡ silently (record { settings = Some k; server = s.server; device = s.device; cursor = s.cursor }) = cond-false s.server.up (reads k s.server.clock s) _ down in
        let n : _ × _ × _ = no_cause Other refl in (
          record {
            cause = Other;
            untimed = n.0;
            events = [];
            heard = tt;
            state = ap (λ (t : server.Step). model_of k t.state) z;
            requested = λ r e. absurd (n.1 r e);
            onward = λ clock e. absurd (n.2 clock e);
            home = inl (refines few).stands;
            clock = let e : (settles k s).state.server.clock ≡ s.server.clock = ap (λ (t : server.Step). t.state.server.clock) z in omega (arith, e, b.clock);
            known = λ g. knows_then;
            told = λ j g. (same_Some j k (sym g ∙ has_settled k), knows_then);
          },
          ap (λ (t : server.Step). grants (sends t.effects)) z,
        )

    settling_k : k.addresses < 4096 → Good (settles k s)
    settling_k few =
        elim (cases_Bool s.server.up) [
          | inl up ↦ up-settles few up
          | inr down ↦ down_settles few down
        ]

    settling : (j : model.Settings) → j.addresses < 4096 → Good (settles j s)
    settling j few c d f =
        let same : j ≡ k = f j (known-first w.settings (settles j s).state.settings j (has_settled j) d) in
        subst (λ (i : model.Settings). Good (settles i s)) (sym same) (settling_k (subst (λ (i : model.Settings). i.addresses < 4096) same few)) c d f

    few-addresses : (n t e : ℕ) → valid n t e ≡ true → n < 4096
    few-addresses n t e v =
        let p : _ × _ = and_parts _ _ v in
        let q : _ × _ = and_parts _ _ p.0 in
        let r : _ × _ = and_parts _ _ q.0 in
        let u : _ × _ = and_parts _ _ r.0 in
        let y : (leb 1 n ≡ true) × (leb n 1024 ≡ true) = and_parts (leb 1 n) (leb n 1024) u.0 in
        omega (arith, leb-true n 1024 y.1)

    learning : (n t e : ℕ) → valid n t e ≡ true → Good (answers (Ok (message.Settings n t e)) s)
    learning n t e v =
        subst (λ (o : Option model.Settings). Good (server.learns o n t e s)) (sym un.unknown)
        (subst (λ (z : server.Step). Good z) (sym (cond-true (valid n t e) (settles (record { addresses = n; term = t; skew = e }) s) _ v))
        (settling (record { addresses = n; term = t; skew = e }) (few-addresses n t e v)))

    by_message : (m : Message) → is_tick_in (Some m) ≡ false → below (start_in (Some m)) s.server.clock ≡ false → Good (answers (judged reader.Server None m) s)
    by_message (message.Request r) calm low = refusing _
    by_message (message.Grant g) calm low = refusing _
    by_message (message.Settings n t e) calm low = cond_both (valid n t e) _ _ (λ (a : Answer). Good (answers a s)) (λ v. learning n t e v) (λ v. refusing _)
    by_message message.Tick calm low = absurd (both_ways true calm refl)
    by_message message.Crash calm low = crashing
    by_message (message.Restart clock) calm low = restarts-none clock low
    by_message (message.OwnNumber n) calm low = refusing _
    by_message (message.Nonce n) calm low = refusing _
    by_message (message.InUse a u) calm low = refusing _
    by_message message.NoAddress calm low = refusing _
    by_message (message.Fault f) calm low = refusing _

    by_reading : (o : Option Message) → is_tick_in o ≡ false → below (start_in o) s.server.clock ≡ false → Good (answers (answered reader.Server None o) s)
    by_reading None calm low = refusing _
    by_reading (Some m) calm low = by_message m calm low

    pub unsettled_hears : (bs : List ℕ) → is_tick_in (read bs) ≡ false → below (start_in (read bs)) s.server.clock ≡ false → Good (hears bs s)
    unfolding hears
    unsettled_hears bs calm low =
        subst (λ (o : Option model.Settings). Good (answers (answered reader.Server (option_map server.size o) (read bs)) s)) (sym un.unknown) (by_reading (read bs) calm low)
