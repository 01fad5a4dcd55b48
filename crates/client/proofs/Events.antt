-- Which events a step is not, by what the client puts out.
-- Assumes nothing.
use Rattle.std.proofs.Common.{◌≡◌, ℕ, ◌+◌, ◌^◌, ◌≤◌, Bool, true, false, ◌&&◌, ltb, leb, ◌⊎◌, List, [], ◌∷◌, ◌++◌, IfOk, Some, None, Ok, Err, Option, Result, sym, refl, ap, ◌∙◌, subst, inl, inr, ⊎_elim, arith}
use Rattle.std.specs.Option.{option_map}
use Rattle.std.proofs.lemmas.Bool.{cond_both, cond-true, both_ways, cases_Bool, or_parts, or_from, or_right, leb-false, ltb-false}
use Rattle.lease.specs.declared.fault.Fault as lease
use Rattle.lease.specs.declared.message.Grant as lent
use Rattle.lease.specs.declared.message.Request as lent-request
use Rattle.lease.specs.Settings as model
use Rattle.lease.specs.Settings.{valid}
use Rattle.lease.specs.Holding.{Use}
use Rattle.lease.specs.World as world
use Rattle.lease.specs.Run.{hearing}
use Rattle.retry.specs.Schedule.{is_due}
use Rattle.retry.specs.Run as retry
use Rattle.retry.specs.Run.{Event, Starts, Ticks, Asks, Takes, over}
use Rattle.retry.specs.Pacing as pacing
use Rattle.retry.specs.Pacing.{Never}
use Rattle.wire.specs.declared.message.Message.{Message}
use Rattle.wire.specs.declared.message.Message.TheVariants.{Request, Grant, Settings, Tick, Crash, Restart, OwnNumber, Nonce, InUse, NoAddress, Fault}
use Rattle.wire.specs.Decode.{Answer}
use Rattle.client.specs.State as state
use Rattle.client.specs.State.{State, Turn, in_use, until, stops, crashes, leaves, ticks, restarts, learns, named, asked_at, held_by, grants, does}
use Rattle.client.specs.Client as whole
use Rattle.client.specs.Client.{Client, Step, ready, asks_by, queued, goes_on, answers}
use Rattle.client.specs.Pacing.{uses, uses_none, any, is_tick, is_start}
use Rattle.client.proofs.Scheduling.{Tied, term_of, happened}
use Rattle.client.proofs.Tracing.{requesting, heard_by, first_by}

-- messages put out one after the other
any-++ : (test : Message → Bool) (ms ns : List Message) → any test ns ≡ true → any test (ms ++ ns) ≡ true
unfolding any
any-++ test [] ns e = e
any-++ test (m ∷ ms) ns e = or_right (test m) (any test (ms ++ ns)) (any-++ test ms ns e)

any-before : (test : Message → Bool) (ms ns : List Message) → any test (ms ++ ns) ≡ false → any test ms ≡ false
unfolding any
any-before test [] ns e = refl
any-before test (m ∷ ms) ns e =
    let p : (test m ≡ false) × (any test (ms ++ ns) ≡ false) = or_parts (test m) (any test (ms ++ ns)) e in
    or_from (test m) (any test ms) p.0 (any-before test ms ns p.1)

none_more : (ms ns : List Message) → any uses ms ≡ false → any uses ns ≡ false → any uses (ms ++ ns) ≡ false
unfolding any
none_more [] ns e f = f
none_more (m ∷ ms) ns e f =
    let p : (uses m ≡ false) × (any uses ms ≡ false) = or_parts (uses m) (any uses ms) e in
    or_from (uses m) (any uses (ms ++ ns)) p.0 (none_more ms ns p.1 f)

-- what a message made the client put out, it puts out also where it asks
asks-any : (test : Message → Bool) (t : Turn) (k : Option model.Settings) (own : Option ℕ) (ns : List ℕ) → any test (asks_by k own t ns).says ≡ false → any test t.says ≡ false
asks-any test t None own ns e = e
asks-any test t (Some k) None ns e = e
asks-any test t (Some k) (Some own) [] e = e
asks-any test t (Some k) (Some own) (n ∷ ns) e =
    cond_both (ready t.state) (whole.sends k own n t ns) (whole.keeps t (n ∷ ns)) (λ (p : Step). any test p.says ≡ false → any test t.says ≡ false)
    (λ r. any-before test t.says _) (λ r f. f) e

module _ (T : retry.Client → Event → Bool) (es : List Event) where
  pub after-request : ((c : retry.Client) → T c Asks ≡ false) → (rs : List lent-request.Request) (hs : List Event) → Never T es hs → Never T es (requesting rs ++ hs)
  unfolding Never
  after-request no-asks [] hs k = k
  after-request no-asks (r ∷ rs) hs k = (no-asks _, k)

  module _ (s : State) where
    no_tick : (s.holder.up ≡ true → T (retry.client es) Ticks ≡ false) → (r : Result Turn lease.Fault) → Never T es (heard_by Tick s r)
    unfolding Never
    no_tick f (Ok t) = cond_both s.holder.up (Ticks ∷ []) [] (λ l. Never T es l) (λ up. (f up, tt)) (λ down. tt)
    no_tick f (Err e) = tt

    no_take : (s.holder.up ≡ true → (a t : ℕ) → T (retry.client es) (Takes a t) ≡ false) → (g : lent.Grant) (r : Result Turn lease.Fault) → Never T es (heard_by (Grant g) s r)
    unfolding Never
    no_take f g (Ok t) = cond_both s.holder.up (Takes _ _ ∷ []) [] (λ l. Never T es l) (λ up. (f up _ _, tt)) (λ down. tt)
    no_take f g (Err e) = tt

    no_start : ((clock : ℕ) → T (retry.client es) (Starts clock) ≡ false) → (clock : ℕ) (r : Result Turn lease.Fault) → Never T es (heard_by (Restart clock) s r)
    unfolding Never
    no_start f clock (Ok t) = (f clock, tt)
    no_start f clock (Err e) = tt

    -- other kinds are no events
    quiet : (m : Message) → happened m s ≡ [] → (r : Result Turn lease.Fault) → Never T es (heard_by m s r)
    unfolding Never
    quiet m e (Ok t) = subst (λ (l : List Event). Never T es l) (sym e) tt
    quiet m e (Err f) = tt

  -- three kinds matter
  by_kind : (c : Client) (Q : Answer → Type 0) →
      (Q (Ok Tick) → Never T es (heard_by Tick c.state (does Tick c.state))) →
      ((g : lent.Grant) → Q (Ok (Grant g)) → Never T es (heard_by (Grant g) c.state (does (Grant g) c.state))) →
      ((clock : ℕ) → Q (Ok (Restart clock)) → Never T es (heard_by (Restart clock) c.state (does (Restart clock) c.state))) →
      (a : Answer) → Q a → Never T es (first_by c a)
  unfolding Never
  by_kind c Q tick grant restart (Ok (Request r)) q = tt
  by_kind c Q tick grant restart (Ok (Grant g)) q = grant g q
  by_kind c Q tick grant restart (Ok (Settings n t k)) q = quiet c.state (Settings n t k) refl (does (Settings n t k) c.state)
  by_kind c Q tick grant restart (Ok Tick) q = tick q
  by_kind c Q tick grant restart (Ok Crash) q = tt
  by_kind c Q tick grant restart (Ok (Restart clock)) q = restart clock q
  by_kind c Q tick grant restart (Ok (OwnNumber n)) q = quiet c.state (OwnNumber n) refl (does (OwnNumber n) c.state)
  by_kind c Q tick grant restart (Ok (Nonce n)) q = tt
  by_kind c Q tick grant restart (Ok (InUse a u)) q = tt
  by_kind c Q tick grant restart (Ok NoAddress) q = tt
  by_kind c Q tick grant restart (Ok (Fault f)) q = tt
  by_kind c Q tick grant restart (Err f) q = tt

module _ (c : Client) (es : List Event) where
  -- a restart that is refused is no start
  restart_refused : (clock : ℕ) → ltb clock (2 ^ 63) ≡ false → Never pacing.starts es (heard_by (Restart clock) c.state (does (Restart clock) c.state))
  unfolding Never
  restart_refused clock e =
      cond_both (leb (2 ^ 63) clock) _ _ (λ r. Never pacing.starts es (heard_by (Restart clock) c.state r)) (λ f. tt)
      (λ f. absurd (let l : 2 ^ 63 ≤ clock = ltb-false clock (2 ^ 63) e in omega (arith, leb-false (2 ^ 63) clock f)))

  pub never_starts : (a : Answer) → is_start a ≡ false → Never pacing.starts es (first_by c a)
  never_starts a e =
      by_kind pacing.starts es c (λ a. is_start a ≡ false)
      (λ q. no_tick pacing.starts es c.state (λ up. refl) (does Tick c.state))
      (λ g q. no_take pacing.starts es c.state (λ up a t. refl) g (does (Grant g) c.state))
      (λ clock q. restart_refused clock q) a e

  pub never_asks : (a : Answer) → Never pacing.asks es (first_by c a)
  never_asks a =
      by_kind pacing.asks es c (λ a. Unit {0})
      (λ q. no_tick pacing.asks es c.state (λ up. refl) (does Tick c.state))
      (λ g q. no_take pacing.asks es c.state (λ up a t. refl) g (does (Grant g) c.state))
      (λ clock q. no_start pacing.asks es c.state (λ clock. refl) clock (does (Restart clock) c.state)) a tt

  pub never_tarries : Tied c.state es → is_due c.state.schedule c.state.holder.clock ≡ false → (a : Answer) → Never pacing.tarries es (first_by c a)
  never_tarries tie e a =
      by_kind pacing.tarries es c (λ a. Unit {0})
      (λ q. no_tick pacing.tarries es c.state (λ up. ap (λ (x : retry.Client). is_due x.schedule x.clock) (sym (tie up)) ∙ e) (does Tick c.state))
      (λ g q. no_take pacing.tarries es c.state (λ up a t. refl) g (does (Grant g) c.state))
      (λ clock q. no_start pacing.tarries es c.state (λ clock. refl) clock (does (Restart clock) c.state)) a tt

  -- a tick at which an address is over puts out the loss
  tick_says : IfOk (ticks c.state) (λ t. c.state.holder.up ≡ true → over (c.state.holder.clock + 1) (option_map until (in_use c.state)) ≡ true → any uses_none t.says ≡ true)
  unfolding any
  tick_says =
      let P : Turn → Type 0 = λ t. c.state.holder.up ≡ true → over (c.state.holder.clock + 1) (option_map until (in_use c.state)) ≡ true → any uses_none t.says ≡ true in
      cond_both c.state.holder.up _ _ (λ (r : Result Turn lease.Fault). IfOk r P)
      (λ up. cond_both (leb (2 ^ 63) (c.state.holder.clock + 1)) _ _ (λ (r : Result Turn lease.Fault). IfOk r P) (λ e. tt)
      (λ e. cond_both (over (c.state.holder.clock + 1) (option_map until (in_use c.state))) _ _ P (λ f p q. refl) (λ f p q. absurd (both_ways _ f q))))
      (λ down p. absurd (both_ways _ down p))

  tick_no_loss : Tied c.state es → (r : Result Turn lease.Fault) →
      IfOk r (λ t. c.state.holder.up ≡ true → over (c.state.holder.clock + 1) (option_map until (in_use c.state)) ≡ true → any uses_none t.says ≡ true) →
      any uses_none (goes_on c (queued Tick c.nonces) r).says ≡ false → Never pacing.loses es (heard_by Tick c.state r)
  unfolding Never
  tick_no_loss tie (Ok t) h e =
      no_tick pacing.loses es c.state
      (λ up. ap (λ (x : retry.Client). over (x.clock + 1) x.uses) (sym (tie up))
      ∙ ⊎_elim
      (λ f. absurd (both_ways _ (asks-any uses_none t t.state.settings t.state.own (queued Tick c.nonces) e) (h up f)))
      (λ f. f) (cases_Bool (over (c.state.holder.clock + 1) (option_map until (in_use c.state)))))
      (Ok t)
  tick_no_loss tie (Err f) h e = tt

  pub never_loses : Tied c.state es → (a : Answer) → (is_tick a && any uses_none (answers c a).says) ≡ false → Never pacing.loses es (first_by c a)
  never_loses tie a e =
      by_kind pacing.loses es c (λ a. (is_tick a && any uses_none (answers c a).says) ≡ false)
      (λ q. tick_no_loss tie (does Tick c.state) tick_says q)
      (λ g q. no_take pacing.loses es c.state (λ up a t. refl) g (does (Grant g) c.state))
      (λ clock q. no_start pacing.loses es c.state (λ clock. refl) clock (does (Restart clock) c.state)) a e

-- a term is at least a minute
abbrev pub Long : Option model.Settings → Type 0
Long None = Unit {0}
Long (Some k) = 60 ≤ k.term

-- a grant that isn't refused: a client that is down puts out nothing, another that it uses the address
abbrev Granted : State → Turn → Type 0
Granted s t = ((s.holder.up ≡ false) × (any uses t.says ≡ false)) ⊎ ((s.holder.up ≡ true) × (any uses t.says ≡ true) × (Long s.settings → 60 ≤ term_of s.settings))

module _ (s : State) where
  held-says : (k : model.Settings) (g : lent.Grant) → s.holder.up ≡ true → s.settings ≡ Some k → (r : Result world.Client lease.Fault) → IfOk (held_by k.term g.address s r) (λ t. Granted s t)
  unfolding any
  held-says k g up e (Ok h) =
      inr (up, any-++ uses (leaves g.address (in_use s)) (InUse _ _ ∷ []) refl, λ long. subst (λ (o : Option model.Settings). 60 ≤ term_of o) (sym e) (subst Long e long))
  held-says k g up e (Err f) = tt

  granted-says : (g : lent.Grant) → s.holder.up ≡ true → (o : Option ℕ) (k : Option model.Settings) → s.settings ≡ k → IfOk (state.granted o k g s) (λ t. Granted s t)
  granted-says g up None k e = tt
  granted-says g up (Some own) None e = tt
  granted-says g up (Some own) (Some k) e = held-says k g up e (hearing k.term own g s.holder)

  grant-says : (g : lent.Grant) → IfOk (grants g s) (λ t. Granted s t)
  unfolding any
  grant-says g = cond_both s.holder.up _ _ (λ (r : Result Turn lease.Fault). IfOk r (λ t. Granted s t)) (λ up. granted-says g up s.own s.settings refl) (λ down. inl (down, refl))

  -- no other message puts out an address
  stops_no_use : (o : Option Use) → any uses (stops o) ≡ false
  unfolding any
  stops_no_use None = refl
  stops_no_use (Some u) = refl

  abbrev Useless : Result Turn lease.Fault → Type 0
  Useless r = IfOk r (λ t. any uses t.says ≡ false)

  tick_no_use : Useless (ticks s)
  unfolding any
  tick_no_use =
      cond_both s.holder.up _ _ (λ r. Useless r)
      (λ up. cond_both (leb (2 ^ 63) (s.holder.clock + 1)) _ _ (λ r. Useless r) (λ e. tt)
      (λ e. cond_both (over (s.holder.clock + 1) (option_map until (in_use s))) _ _ (λ (t : Turn). any uses t.says ≡ false) (λ f. refl) (λ f. refl)))
      (λ down. refl)

  crash_no_use : any uses (crashes s).says ≡ false
  unfolding any
  crash_no_use = cond_both s.holder.up _ _ (λ (t : Turn). any uses t.says ≡ false) (λ up. stops_no_use (in_use s)) (λ down. refl)

  restart_no_use : (clock : ℕ) → Useless (restarts clock s)
  restart_no_use clock = cond_both (leb (2 ^ 63) clock) _ _ (λ r. Useless r) (λ e. tt) (λ e. stops_no_use (in_use s))

  learn_no_use : (n t k : ℕ) → Useless (learns n t k s)
  unfolding any
  learn_no_use n t k = cond_both (valid n t k) _ _ (λ r. Useless r) (λ e. refl) (λ e. tt)

  name_no_use : (o : Option ℕ) (n : ℕ) → Useless (named o n s)
  unfolding any
  name_no_use None n = refl
  name_no_use (Some m) n = tt

asks_no_use : (t : Turn) (k : Option model.Settings) (own : Option ℕ) (ns : List ℕ) → any uses t.says ≡ false → any uses (asks_by k own t ns).says ≡ false
unfolding any
asks_no_use t None own ns e = e
asks_no_use t (Some k) None ns e = e
asks_no_use t (Some k) (Some own) [] e = e
asks_no_use t (Some k) (Some own) (n ∷ ns) e =
    cond_both (ready t.state) (whole.sends k own n t ns) (whole.keeps t (n ∷ ns)) (λ (p : Step). any uses p.says ≡ false) (λ r. none_more t.says _ e refl) (λ r. e)

module _ (c : Client) where
  going_no_use : (ns : List ℕ) (r : Result Turn lease.Fault) → Useless c.state r → any uses (goes_on c ns r).says ≡ false
  unfolding any
  going_no_use ns (Ok t) h = asks_no_use t t.state.settings t.state.own ns h
  going_no_use ns (Err f) h = refl

  -- the step is a grant taken, and nothing else before a request
  abbrev IsTaken : List Event → Type 0
  IsTaken hs = (a : ℕ) × (t : ℕ) × (hs ≡ Takes a t ∷ []) × (60 ≤ t)

  taken_by : Long c.state.settings → (g : lent.Grant) (r : Result Turn lease.Fault) → IfOk r (λ t. Granted c.state t) → any uses (goes_on c (queued (Grant g) c.nonces) r).says ≡ true →
      IsTaken (heard_by (Grant g) c.state r)
  unfolding any
  taken_by long g (Ok t) (inl h) e = absurd (both_ways _ (asks_no_use t t.state.settings t.state.own (queued (Grant g) c.nonces) h.1) e)
  taken_by long g (Ok t) (inr h) e =
      (asked_at c.state.holder.holding.waits, term_of c.state.settings, cond-true c.state.holder.up (Takes _ _ ∷ []) [] h.0, h.2 long)
  taken_by long g (Err f) h e = absurd (both_ways false refl e)

  pub is-taken : Long c.state.settings → (a : Answer) → any uses (answers c a).says ≡ true → IsTaken (first_by c a)
  unfolding any
  is-taken long (Ok (Request r)) e = absurd (both_ways false refl e)
  is-taken long (Ok (Grant g)) e = taken_by long g (does (Grant g) c.state) (grant-says c.state g) e
  is-taken long (Ok (Settings n t k)) e = absurd (both_ways _ (going_no_use (queued (Settings n t k) c.nonces) (does (Settings n t k) c.state) (learn_no_use c.state n t k)) e)
  is-taken long (Ok Tick) e = absurd (both_ways _ (going_no_use (queued Tick c.nonces) (does Tick c.state) (tick_no_use c.state)) e)
  is-taken long (Ok Crash) e = absurd (both_ways _ (going_no_use (queued Crash c.nonces) (does Crash c.state) (crash_no_use c.state)) e)
  is-taken long (Ok (Restart clock)) e = absurd (both_ways _ (going_no_use (queued (Restart clock) c.nonces) (does (Restart clock) c.state) (restart_no_use c.state clock)) e)
  is-taken long (Ok (OwnNumber n)) e = absurd (both_ways _ (going_no_use (queued (OwnNumber n) c.nonces) (does (OwnNumber n) c.state) (name_no_use c.state c.state.own n)) e)
  is-taken long (Ok (Nonce n)) e = absurd (both_ways _ (going_no_use (queued (Nonce n) c.nonces) (does (Nonce n) c.state) refl) e)
  is-taken long (Ok (InUse a u)) e = absurd (both_ways false refl e)
  is-taken long (Ok NoAddress) e = absurd (both_ways false refl e)
  is-taken long (Ok (Fault f)) e = absurd (both_ways false refl e)
  is-taken long (Err f) e = absurd (both_ways false refl e)

module _ (c : Client) (es : List Event) where
  no_use : (g : lent.Grant) (r : Result Turn lease.Fault) → IfOk r (λ t. Granted c.state t) →
      any uses (goes_on c (queued (Grant g) c.nonces) r).says ≡ false → Never pacing.takes es (heard_by (Grant g) c.state r)
  unfolding Never
  no_use g (Ok t) h e =
      cond_both c.state.holder.up (Takes _ _ ∷ []) [] (λ l. Never pacing.takes es l)
      (λ up. ⊎_elim (λ k. absurd (both_ways _ k.0 up))
      (λ k. absurd (both_ways _ (asks-any uses t t.state.settings t.state.own (queued (Grant g) c.nonces) e) k.1)) h) (λ down. tt)
  no_use g (Err f) h e = tt

  pub never_takes : (a : Answer) → any uses (answers c a).says ≡ false → Never pacing.takes es (first_by c a)
  never_takes a e =
      by_kind pacing.takes es c (λ a. any uses (answers c a).says ≡ false)
      (λ q. no_tick pacing.takes es c.state (λ up. refl) (does Tick c.state))
      (λ g q. no_use g (does (Grant g) c.state) (grant-says c.state g) q)
      (λ clock q. no_start pacing.takes es c.state (λ clock. refl) clock (does (Restart clock) c.state)) a e
