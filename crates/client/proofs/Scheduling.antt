-- Each step of a client is a list of a schedule's events, on its clock, its use, its request that waits and its schedule.
-- Assumes nothing. Lists of events begin with the newest.
use Rattle.std.proofs.Common.{◌≡◌, ℕ, ◌+◌, ◌^◌, ◌≤◌, true, false, cond, leb, List, [], ◌∷◌, ◌++◌, IfOk, Some, None, Ok, Err, Option, Result, sym, refl, ap, ◌∙◌, subst, arith}
use Rattle.std.specs.Option.{option_map}
use Rattle.std.proofs.lemmas.Bool.{cond_both, cond-true, cond-false, both_ways}
use Rattle.lease.specs.declared.fault.Fault as lease
use Rattle.lease.specs.declared.message.Grant as lent
use Rattle.lease.specs.Settings as model
use Rattle.lease.specs.Settings.{valid}
use Rattle.lease.specs.Holding.{Use, Wait, still_used}
use Rattle.lease.specs.World as world
use Rattle.lease.specs.Run.{client_passes, hearing}
use Rattle.retry.specs.declared.schedule.Schedule.{Schedule}
use Rattle.retry.specs.Schedule.{starting, renewing}
use Rattle.retry.specs.Run as retry
use Rattle.retry.specs.Run.{Event, Starts, Ticks, Takes, over, ticked, granted, Lawful}
use Rattle.wire.specs.declared.message.Message.{Message}
use Rattle.wire.specs.declared.message.Message.TheVariants.{Request, Grant, Settings, Tick, Crash, Restart, OwnNumber, Nonce, InUse, NoAddress, Fault}
use Rattle.client.specs.State as state
use Rattle.client.specs.State.{State, Turn, in_use, until, crashes, restarts, passes, ticks, learns, named, asked_at, held_by, grants, does}
use Rattle.client.proofs.Taking.{Took, took}
use Rattle.client.proofs.Turns.{gone, stays}

abbrev pub asked_in : Wait → ℕ
asked_in w = w.asked

abbrev pub view : State → retry.Client
view s = record { clock = s.holder.clock; uses = option_map until (in_use s); waits = option_map asked_in s.holder.holding.waits; schedule = s.schedule }

-- while it is up, it is the schedule's client after these events
abbrev pub Tied : State → List Event → Type 0
Tied s es = s.holder.up ≡ true → view s ≡ retry.client es

abbrev pub term_of : Option model.Settings → ℕ
term_of None = 0
term_of (Some k) = k.term

-- what a message that isn't refused is to the schedule
abbrev pub happened : Message → State → List Event
happened (Request r) s = []
happened (Grant g) s = cond s.holder.up (Takes (asked_at s.holder.holding.waits) (term_of s.settings) ∷ []) []
happened (Settings n t k) s = []
happened Tick s = cond s.holder.up (Ticks ∷ []) []
happened Crash s = []
happened (Restart clock) s = Starts clock ∷ []
happened (OwnNumber n) s = []
happened (Nonce n) s = []
happened (InUse a u) s = []
happened NoAddress s = []
happened (Fault f) s = []

-- the events `hs` after `es` lead to this state, and are lawful if those were
pub record Part (s : State) (hs es : List Event) : Type 0 where
  pub lawful : Lawful es → Lawful (hs ++ es)
  pub tied : Tied s (hs ++ es)

module _ (s : State) (es : List Event) (tie : Tied s es) where
  abbrev After : List Event → Result Turn lease.Fault → Type 0
  After hs r = IfOk r (λ t. Part t.state hs es)

  same : Part s [] es
  same = record { lawful = λ l. l; tied = tie }

  -- the client one tick later, if it uses `o` then
  abbrev next : Option Use → Schedule → retry.Client
  next o schedule = record { clock = s.holder.clock + 1; uses = option_map until o; waits = option_map asked_in s.holder.holding.waits; schedule = schedule }

  after_pass : s.holder.up ≡ true → (schedule : Schedule) →
      view (record { settings = s.settings; own = s.own; holder = client_passes 1 s.holder; schedule = schedule; last = s.last }) ≡ next (still_used (s.holder.clock + 1) (in_use s)) schedule
  after_pass up schedule = ap (λ (x : world.Client). view (record { settings = s.settings; own = s.own; holder = x; schedule = schedule; last = s.last })) (cond-true s.holder.up _ _ up)

  passing : s.holder.up ≡ true → Part (passes s).state (Ticks ∷ []) es
  unfolding Lawful retry.client
  passing up =
      let now : ℕ = s.holder.clock + 1 in
      cond_both (over (s.holder.clock + 1) (option_map until (in_use s))) _ _ (λ (t : Turn). Part t.state (Ticks ∷ []) es)
      (λ e. record {
        lawful = λ l. (tt, l);
        tied = λ _. after_pass up (starting now) ∙ ap (λ (o : Option Use). next o (starting now)) (gone now (in_use s) e)
            ∙ sym (cond-true (over now (option_map until (in_use s))) (next None (starting now)) (next (in_use s) s.schedule) e) ∙ ap ticked (tie up);
      })
      (λ e. record {
        lawful = λ l. (tt, l);
        tied = λ _. after_pass up s.schedule ∙ ap (λ (o : Option Use). next o s.schedule) (stays now (in_use s) e)
            ∙ sym (cond-false (over now (option_map until (in_use s))) (next None (starting now)) (next (in_use s) s.schedule) e) ∙ ap ticked (tie up);
      })

  -- events that depend on whether it is up
  by_up : (hs : List Event) (t : State) → s.holder.up ≡ true → Part t hs es → Part t (cond s.holder.up hs []) es
  by_up hs t up k = subst (λ (l : List Event). Part t l es) (sym (cond-true s.holder.up hs [] up)) k

  by_down : (hs : List Event) → s.holder.up ≡ false → Part s (cond s.holder.up hs []) es
  by_down hs down = subst (λ (l : List Event). Part s l es) (sym (cond-false s.holder.up hs [] down)) same

  ticking : After (happened Tick s) (ticks s)
  ticking =
      cond_both s.holder.up _ _ (λ r. After (happened Tick s) r)
      (λ up. cond_both (leb (2 ^ 63) (s.holder.clock + 1)) _ _ (λ r. After (happened Tick s) r) (λ e. tt) (λ e. by_up (Ticks ∷ []) (passes s).state up (passing up)))
      (λ down. by_down (Ticks ∷ []) down)

  crashing : Part (crashes s).state [] es
  crashing =
      cond_both s.holder.up _ _ (λ (t : Turn). Part t.state [] es)
      (λ up. record { lawful = λ l. l; tied = λ e. absurd (both_ways false refl e) })
      (λ down. same)

  restarting : (clock : ℕ) → After (Starts clock ∷ []) (restarts clock s)
  unfolding Lawful retry.client
  restarting clock = cond_both (leb (2 ^ 63) clock) _ _ (λ r. After (Starts clock ∷ []) r) (λ e. tt) (λ e. record { lawful = λ l. (tt, l); tied = λ up. refl })

  learning : (n t k : ℕ) → After [] (learns n t k s)
  learning n t k = cond_both (valid n t k) _ _ (λ r. After [] r) (λ e. record { lawful = λ l. l; tied = tie }) (λ e. tt)

  naming : (o : Option ℕ) (n : ℕ) → After [] (named o n s)
  naming None n = record { lawful = λ l. l; tied = tie }
  naming (Some m) n = tt

  taking : (k : model.Settings) (g : lent.Grant) → s.holder.up ≡ true → (r : Result world.Client lease.Fault) → IfOk r (λ h. Took k.term g s.holder h) →
      After (Takes (asked_at s.holder.holding.waits) k.term ∷ []) (held_by k.term g.address s r)
  unfolding Lawful retry.client
  taking k g up (Ok h) t =
      let at : asked_at s.holder.holding.waits ≡ t.wait.asked = ap asked_at t.waits in
      record {
        lawful = λ l. (
          (
            ap (λ (c : retry.Client). c.waits) (sym (tie up)) ∙ ap (λ (w : Option Wait). option_map asked_in w) t.waits ∙ ap Some (sym at),
            subst (λ (c : retry.Client). c.clock ≤ asked_at s.holder.holding.waits + k.term) (tie up) (omega (arith, t.soon, at)),
          ),
          l,
        );
        tied = λ _. ap (λ (x : world.Client). view (record { settings = s.settings; own = s.own; holder = x; schedule = renewing s.schedule (asked_at s.holder.holding.waits) k.term; last = Some g.address })) t.is
            ∙ ap (λ (a : ℕ). record { clock = s.holder.clock; uses = Some (a + k.term); waits = None; schedule = renewing s.schedule (asked_at s.holder.holding.waits) k.term }) (sym at)
            ∙ ap (λ (c : retry.Client). granted (asked_at s.holder.holding.waits) k.term c) (tie up);
      }
  taking k g up (Err f) t = tt

  granting_by : (g : lent.Grant) → s.holder.up ≡ true → (o : Option ℕ) (k : Option model.Settings) →
      After (Takes (asked_at s.holder.holding.waits) (term_of k) ∷ []) (state.granted o k g s)
  granting_by g up None k = tt
  granting_by g up (Some own) None = tt
  granting_by g up (Some own) (Some k) = taking k g up (hearing k.term own g s.holder) (took k.term g s.holder own up)

  granting : (g : lent.Grant) → After (happened (Grant g) s) (grants g s)
  granting g =
      cond_both s.holder.up _ _ (λ r. After (happened (Grant g) s) r)
      (λ up. subst (λ (l : List Event). After l (state.granted s.own s.settings g s)) (sym (cond-true s.holder.up (Takes (asked_at s.holder.holding.waits) (term_of s.settings) ∷ []) [] up))
      (granting_by g up s.own s.settings))
      (λ down. by_down (Takes (asked_at s.holder.holding.waits) (term_of s.settings) ∷ []) down)

  pub part : (m : Message) → IfOk (does m s) (λ t. Part t.state (happened m s) es)
  part (Request r) = tt
  part (Grant g) = granting g
  part (Settings n t k) = learning n t k
  part Tick = ticking
  part Crash = crashing
  part (Restart clock) = restarting clock
  part (OwnNumber n) = naming s.own n
  part (Nonce n) = same
  part (InUse a u) = tt
  part NoAddress = tt
  part (Fault f) = tt
