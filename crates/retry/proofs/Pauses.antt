-- The pauses of a client without an address, one by one.
-- Assumes nothing.
use Rattle.std.proofs.Common.{◌≡◌, ℕ, suc, ◌+◌, ◌*◌, ◌^◌, ◌<◌, ◌≤◌, min, true, false, ◌||◌, leb, List, [], ◌∷◌, ◌++◌, Some, None, Option, sym, refl, ap, ◌∙◌, subst, inl, inr, add_assoc, arith}
use native.Mathlib.Nat.{pow-succ', min-eq_left, min-eq_right}
use Rattle.std.proofs.lemmas.Bool.{cond_both, leb-true, leb-false, le-leb, both_ways, cases_lt}
use Rattle.std.proofs.lemmas.Option.{none-some}
use Rattle.retry.specs.declared.schedule.Pause.{Pause}
use Rattle.retry.specs.declared.schedule.Pause.TheVariants.{Four, Eight, Sixteen, ThirtyTwo, SixtyFour}
use Rattle.retry.specs.declared.schedule.Schedule.{Schedule}
use Rattle.retry.specs.Schedule.{lasts, longer, starting}
use Rattle.retry.specs.Run.{Client, Event, Starts, Ticks, Asks, Takes, over, step, client, Fits, Lawful}
use Rattle.retry.specs.Pacing.{starts, asks, takes, loses, tarries, Never, Begins, requests, pause_at, elapsed, DueAtOnce, KthPause, Timetable}
use Rattle.retry.proofs.Steps.{requested-none, clock-step}

-- each pause is twice the one before, up to 64
longer-lasts : (p : Pause) → lasts (longer p) ≡ min (2 * lasts p) 64
longer-lasts Four = refl
longer-lasts Eight = refl
longer-lasts Sixteen = refl
longer-lasts ThirtyTwo = refl
longer-lasts SixtyFour = refl

doubled : (x : ℕ) → min (4 * (2 * x)) 64 ≡ min (2 * min (4 * x) 64) 64
doubled x =
    elim (cases_lt (4 * x) 64) [
      | inl l ↦ let e : min (4 * x) 64 ≡ 4 * x = min-eq_left (omega arith) in rw e (ap (λ n. min n 64) (omega arith))
      | inr l ↦
          let e : min (4 * x) 64 ≡ 64 = min-eq_right l in
          let f : min (4 * (2 * x)) 64 ≡ 64 = min-eq_right (omega arith) in
          rw (e, f)
    ]

pause_more : (p : Pause) (k : ℕ) → lasts p ≡ pause_at k → lasts (longer p) ≡ pause_at (suc k)
pause_more p k e = longer-lasts p ∙ ap (λ n. min (2 * n) 64) e ∙ sym (ap (λ n. min (4 * n) 64) (pow-succ' 2 k) ∙ doubled (2 ^ k))

over_none : (now : ℕ) (o : Option ℕ) → o ≡ None → over now o ≡ true → ⊥
over_none now None e t = both_ways false refl t
over_none now (Some u) e t = none-some u (sym e)

-- to a client without an address a tick is a tick
ticks-none : (c : Client) (P : Client → Type 0) → c.uses ≡ None → P (record { clock = c.clock + 1; uses = c.uses; waits = c.waits; schedule = c.schedule }) → P (step Ticks c)
ticks-none c P u p = cond_both (over (c.clock + 1) c.uses) _ _ P (λ e. absurd (over_none (c.clock + 1) c.uses u e)) (λ e. p)

-- a client that has just lost its address, or started
record Fresh (c : Client) : Type 0 where
  pub uses : c.uses ≡ None
  pub schedule : c.schedule ≡ starting c.clock

begins : (c : Client) (e : Event) → (starts c e || loses c e) ≡ true → Fresh (step e c)
begins c (Starts t) b = record { uses = refl; schedule = refl }
begins c Ticks b =
    cond_both (over (c.clock + 1) c.uses) _ _ (λ (x : Client). Fresh x)
    (λ e. record { uses = refl; schedule = refl })
    (λ e. absurd (both_ways _ e b))
begins c Asks b = absurd (both_ways false refl b)
begins c (Takes asked term) b = absurd (both_ways false refl b)

fresh : (es : List Event) → Begins es → Fresh (client es)
unfolding client
fresh [] b = record { uses = refl; schedule = refl }
fresh (e ∷ es) b = begins (client es) e b

-- a client without an address since before `k` requests
record Unlent (k : ℕ) (c : Client) : Type 0 where
  pub uses : c.uses ≡ None
  pub pause : lasts c.schedule.pause ≡ pause_at k

unlent_fresh : (c : Client) → Fresh c → Unlent 0 c
unlent_fresh c h = record { uses = h.uses; pause = ap (λ (s : Schedule). lasts s.pause) h.schedule }

unlent_ticks : (k : ℕ) (c : Client) → Unlent k c → Unlent k (step Ticks c)
unlent_ticks k c h = ticks-none c (λ (x : Client). Unlent k x) h.uses (record { uses = h.uses; pause = h.pause })

unlent_asks : (k : ℕ) (c : Client) → Unlent k c → Unlent (suc k) (step Asks c)
unlent_asks k c h =
    record {
      uses = h.uses;
      pause = ap lasts (requested-none c.schedule c.clock c.uses h.uses).1 ∙ pause_more c.schedule.pause k h.pause;
    }

-- its next request is due at `due`
record Set (due : ℕ) (c : Client) : Type 0 where
  pub uses : c.uses ≡ None
  pub next : c.schedule.next ≡ due

set-asks : (k : ℕ) (c : Client) → Unlent k c → Set (c.clock + pause_at k) (step Asks c)
set-asks k c h =
    record { uses = h.uses; next = (requested-none c.schedule c.clock c.uses h.uses).0 ∙ ap (λ n. c.clock + n) h.pause }

set-step : (due : ℕ) (c : Client) (e : Event) → starts c e ≡ false → takes c e ≡ false → asks c e ≡ false → Set due c → Set due (step e c)
set-step due c (Starts t) s k a h = absurd (both_ways true s refl)
set-step due c Ticks s k a h = ticks-none c (λ (x : Client). Set due x) h.uses (record { uses = h.uses; next = h.next })
set-step due c Asks s k a h = absurd (both_ways true a refl)
set-step due c (Takes asked term) s k a h = absurd (both_ways true k refl)

-- one event more of a stretch without a grant
unlent_more : (c : Client) (e : Event) (es : List Event) → starts c e ≡ false → takes c e ≡ false → Unlent (requests es) c → Unlent (requests (e ∷ es)) (step e c)
unfolding requests
unlent_more c (Starts t) es s k h = absurd (both_ways true s refl)
unlent_more c Ticks es s k h = unlent_ticks (requests es) c h
unlent_more c Asks es s k h = unlent_asks (requests es) c h
unlent_more c (Takes asked term) es s k h = absurd (both_ways true k refl)

unlent : (begin during : List Event) → Begins begin → Never starts begin during → Never takes begin during → Unlent (requests during) (client (during ++ begin))
unfolding Never client requests
unlent begin [] b s k = unlent_fresh (client begin) (fresh begin b)
unlent begin (e ∷ es) b s k = unlent_more (client (es ++ begin)) e es s.0 k.0 (unlent begin es b s.1 k.1)

set : (due : ℕ) (before between : List Event) → Set due (client before) → Never starts before between → Never takes before between → Never asks before between →
    Set due (client (between ++ before))
unfolding Never client
set due before [] h s k a = h
set due before (e ∷ es) h s k a = set-step due (client (es ++ before)) e s.0 k.0 a.0 (set due before es h s.1 k.1 a.1)

onward : (before between : List Event) → Never starts before between → (client before).clock ≤ (client (between ++ before)).clock
unfolding Never client
onward before [] s = omega arith
onward before (e ∷ es) s = omega (arith, onward before es s.1, clock-step (client (es ++ before)) e s.0)

pub due_at_once : DueAtOnce
due_at_once begin between b s k a =
    let n : (client begin).schedule.next ≡ (client begin).clock = ap (λ (x : Schedule). x.next) (fresh begin b).schedule in
    let h : Set (client begin).clock (client (between ++ begin)) = set (client begin).clock begin between (record { uses = (fresh begin b).uses; next = n }) s k a in
    le-leb _ _ (omega (arith, h.next, onward begin between s))

after-request : (begin during : List Event) → Begins begin → Never starts begin during → Never takes begin during →
    Set ((client (during ++ begin)).clock + pause_at (requests during)) (client (Asks ∷ (during ++ begin)))
unfolding client
after-request begin during b s k = set-asks (requests during) (client (during ++ begin)) (unlent begin during b s k)

pub kth_pause : KthPause
kth_pause begin during between b s k s' k' a =
    ap (λ n. leb n (client (between ++ (Asks ∷ (during ++ begin)))).clock) (set _ (Asks ∷ (during ++ begin)) between (after-request begin during b s k) s' k' a).next

-- no address for `k` requests, the next due at `due`, and the clock not past that
record OnTime (k due : ℕ) (c : Client) : Type 0 where
  pub unlent : Unlent k c
  pub next : c.schedule.next ≡ due
  pub clock : c.clock ≤ due

on_time_ticks : (k due : ℕ) (c : Client) → tarries c Ticks ≡ false → OnTime k due c → OnTime k due (step Ticks c)
on_time_ticks k due c t h =
    let early : c.clock < c.schedule.next = leb-false c.schedule.next c.clock t in
    ticks-none c (λ (x : Client). OnTime k due x) h.unlent.uses
    (record { unlent = record { uses = h.unlent.uses; pause = h.unlent.pause }; next = h.next; clock = omega (arith, h.next) })

now_due : (k due : ℕ) (c : Client) → OnTime k due c → Fits Asks c → c.clock ≡ due
now_due k due c h f = omega (arith, h.next, h.clock, leb-true c.schedule.next c.clock f)

on_time_asks : (k due : ℕ) (c : Client) → Fits Asks c → OnTime k due c → OnTime (suc k) (due + pause_at k) (step Asks c)
on_time_asks k due c f h =
    let e : c.clock ≡ due = now_due k due c h f in
    record { unlent = unlent_asks k c h.unlent; next = (set-asks k c h.unlent).next ∙ ap (λ n. n + pause_at k) e; clock = omega arith }

on_time_more : (b : ℕ) (c : Client) (e : Event) (es : List Event) → Fits e c → starts c e ≡ false → takes c e ≡ false → tarries c e ≡ false →
    OnTime (requests es) (b + elapsed (requests es)) c → OnTime (requests (e ∷ es)) (b + elapsed (requests (e ∷ es))) (step e c)
unfolding requests elapsed
on_time_more b c (Starts t) es f s k t' h = absurd (both_ways true s refl)
on_time_more b c Ticks es f s k t h = on_time_ticks (requests es) (b + elapsed (requests es)) c t h
on_time_more b c Asks es f s k t h =
    subst (λ n. OnTime (suc (requests es)) n (step Asks c)) (add_assoc b (elapsed (requests es)) (pause_at (requests es)))
    (on_time_asks (requests es) (b + elapsed (requests es)) c f h)
on_time_more b c (Takes asked term) es f s k t h = absurd (both_ways true k refl)

on_time : (begin during : List Event) → Begins begin → Lawful (during ++ begin) → Never starts begin during → Never takes begin during → Never tarries begin during →
    OnTime (requests during) ((client begin).clock + elapsed (requests during)) (client (during ++ begin))
unfolding Never Lawful client requests elapsed
on_time begin [] b f s k t =
    let h : Fresh (client begin) = fresh begin b in
    let n : (client begin).schedule.next ≡ (client begin).clock = ap (λ (x : Schedule). x.next) h.schedule in
    record { unlent = unlent_fresh (client begin) h; next = omega (arith, n); clock = omega arith }
on_time begin (e ∷ es) b f s k t =
    on_time_more (client begin).clock (client (es ++ begin)) e es f.0 s.0 k.0 t.0 (on_time begin es b f.1 s.1 k.1 t.1)

pub timetable : Timetable
unfolding Lawful
timetable begin during b f s k t =
    now_due (requests during) ((client begin).clock + elapsed (requests during)) (client (during ++ begin)) (on_time begin during b f.1 s k t) f.0
