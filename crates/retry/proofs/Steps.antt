-- What one step leaves of a client's clock and schedule.
-- Assumes nothing.
use Rattle.std.proofs.Common.{◌≡◌, ℕ, ◌+◌, ◌-◌, ◌/◌, ◌≤◌, true, false, Some, None, Option, sym, refl, ap, arith}
use native.Mathlib.Nat.{le-max_right}
use Rattle.std.proofs.lemmas.Bool.{cond_both, both_ways}
use Rattle.std.proofs.lemmas.Option.{same_Some, none-some}
use Rattle.retry.specs.declared.schedule.Pause.{Pause}
use Rattle.retry.specs.declared.schedule.Pause.TheVariants.{Four, Eight, Sixteen, ThirtyTwo, SixtyFour}
use Rattle.retry.specs.declared.schedule.Schedule.{Schedule}
use Rattle.retry.specs.Schedule.{lasts, longer, renewal, requested}
use Rattle.retry.specs.Run.{Client, Event, Starts, Ticks, Asks, Takes, over, step}
use Rattle.retry.specs.Pacing.{starts}

pub lasts-within : (p : Pause) → (4 ≤ lasts p) × (lasts p ≤ 64)
lasts-within Four = (omega arith, omega arith)
lasts-within Eight = (omega arith, omega arith)
lasts-within Sixteen = (omega arith, omega arith)
lasts-within ThirtyTwo = (omega arith, omega arith)
lasts-within SixtyFour = (omega arith, omega arith)

pub renewal-least : (left : ℕ) → 60 ≤ renewal left
renewal-least left = le-max_right ((left + 1) / 2) 60

pub requested-none : (s : Schedule) (now : ℕ) (o : Option ℕ) → o ≡ None →
    ((requested s now o).next ≡ now + lasts s.pause) × ((requested s now o).pause ≡ longer s.pause)
requested-none s now None e = (refl, refl)
requested-none s now (Some u) e = absurd (none-some u (sym e))

pub requested-some : (s : Schedule) (now u : ℕ) (o : Option ℕ) → o ≡ Some u → (requested s now o).next ≡ now + renewal (u - now)
requested-some s now u None e = absurd (none-some u e)
requested-some s now u (Some v) e = ap (λ n. now + renewal (n - now)) (same_Some v u e)

-- a clock goes on but at a start
pub clock-step : (c : Client) (e : Event) → starts c e ≡ false → c.clock ≤ (step e c).clock
clock-step c (Starts t) s = absurd (both_ways true s refl)
clock-step c Ticks s = cond_both (over (c.clock + 1) c.uses) _ _ (λ (x : Client). c.clock ≤ x.clock) (λ e. omega arith) (λ e. omega arith)
clock-step c Asks s = omega arith
clock-step c (Takes asked term) s = omega arith
