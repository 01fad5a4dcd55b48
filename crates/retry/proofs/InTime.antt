-- A client that asks whenever it is due: its pauses end, and it asks again before a use is over.
-- Assumes nothing.
use Rattle.std.proofs.Common.{◌≡◌, ℕ, ◌+◌, ◌/◌, ◌<◌, ◌≤◌, true, false, ◌⊎◌, List, [], ◌∷◌, ◌++◌, Some, None, Option, sym, refl, ◌∙◌, inl, inr, arith}
use native.Mathlib.Nat.{max-le}
use Rattle.std.proofs.lemmas.Bool.{cond_both, leb-false, ltb-true, both_ways}
use Rattle.std.proofs.lemmas.Option.{same_Some, none-some}
use Rattle.retry.specs.Schedule.{renewal}
use Rattle.retry.specs.Run.{Client, Event, Starts, Ticks, Asks, Takes, over, step, client, Fits, Lawful}
use Rattle.retry.specs.Pacing.{starts, asks, takes, tarries, Never, AsksBy, StillUses, PausesEnd, AsksInTime}
use Rattle.retry.proofs.Steps.{lasts-within, requested-none}

-- without an address the next request is never further off than the longest pause
Soon : Client → Type 0
Soon c = c.uses ≡ None → c.schedule.next ≤ c.clock + 64

soon_step : (c : Client) (e : Event) → Soon c → Soon (step e c)
unfolding Soon
soon_step c (Starts t) h = λ g. omega arith
soon_step c Ticks h =
    cond_both (over (c.clock + 1) c.uses) _ _ (λ (x : Client). Soon x)
    (λ e g. omega arith)
    (λ e g. omega (arith, h g))
soon_step c Asks h = λ g. omega (arith, (requested-none c.schedule c.clock c.uses g).0, (lasts-within c.schedule.pause).1)
soon_step c (Takes asked term) h = λ g. absurd (none-some (asked + term) (sym g))

soon : (es : List Event) → Soon (client es)
unfolding client Soon
soon [] = λ g. omega arith
soon (e ∷ es) = soon_step (client es) e (soon es)

-- no address, and a request due by `limit`
record Idle (limit : ℕ) (c : Client) : Type 0 where
  pub uses : c.uses ≡ None
  pub clock : c.clock ≤ limit
  pub next : c.schedule.next ≤ limit

idle_step : (limit : ℕ) (c : Client) (e : Event) → starts c e ≡ false → takes c e ≡ false → tarries c e ≡ false → asks c e ≡ false → Idle limit c → Idle limit (step e c)
idle_step limit c (Starts t) s k t' a h = absurd (both_ways true s refl)
idle_step limit c Ticks s k t a h =
    let early : c.clock < c.schedule.next = leb-false c.schedule.next c.clock t in
    cond_both (over (c.clock + 1) c.uses) _ _ (λ (x : Client). Idle limit x)
    (λ e. record { uses = refl; clock = omega (arith, h.next); next = omega (arith, h.next) })
    (λ e. record { uses = h.uses; clock = omega (arith, h.next); next = h.next })
idle_step limit c Asks s k t a h = absurd (both_ways true a refl)
idle_step limit c (Takes asked term) s k t a h = absurd (both_ways true k refl)

idle : (before between : List Event) → (client before).uses ≡ None → Never starts before between → Never takes before between → Never tarries before between →
    Never asks before between → Idle ((client before).clock + 64) (client (between ++ before))
unfolding Never client Soon
idle before [] u s k t a = record { uses = u; clock = omega arith; next = soon before u }
idle before (e ∷ es) u s k t a = idle_step _ _ e s.0 k.0 t.0 a.0 (idle before es u s.1 k.1 t.1 a.1)

pub pauses_end : PausesEnd
pauses_end before between u s k t a = (idle before between u s k t a).clock

renewal-most : (term : ℕ) → 60 ≤ term → renewal term ≤ term
renewal-most term l =
    let half : (term + 1) / 2 ≤ term = omega arith in
    max-le half l

-- an address in use until then, no request that waits, and the renewal due by then
record Ahead (until : ℕ) (c : Client) : Type 0 where
  pub uses : c.uses ≡ Some until
  pub waits : c.waits ≡ None
  pub clock : c.clock ≤ until
  pub next : c.schedule.next ≤ until

over-past : (now until : ℕ) (o : Option ℕ) → o ≡ Some until → over now o ≡ true → until < now
over-past now until None e t = absurd (none-some until e)
over-past now until (Some v) e t = omega (arith, same_Some v until e, ltb-true v now t)

ahead-ticks : (until : ℕ) (c : Client) → tarries c Ticks ≡ false → Ahead until c → Ahead until (step Ticks c)
ahead-ticks until c t h =
    let early : c.clock < c.schedule.next = leb-false c.schedule.next c.clock t in
    cond_both (over (c.clock + 1) c.uses) _ _ (λ (x : Client). Ahead until x)
    (λ e. absurd (omega (arith, h.next, over-past (c.clock + 1) until c.uses h.uses e)))
    (λ e. record { uses = h.uses; waits = h.waits; clock = omega (arith, h.next); next = h.next })

module _ (until : ℕ) (before : List Event) where
  more : (e : Event) (es : List Event) → Fits e (client (es ++ before)) → starts (client (es ++ before)) e ≡ false → tarries (client (es ++ before)) e ≡ false →
      Ahead until (client (es ++ before)) ⊎ AsksBy until before es → Ahead until (client ((e ∷ es) ++ before)) ⊎ AsksBy until before (e ∷ es)
  unfolding client AsksBy
  more (Starts t) es f s t' h = absurd (both_ways true s refl)
  more Ticks es f s t (inl h) = inl (ahead-ticks until (client (es ++ before)) t h)
  more Ticks es f s t (inr h) = inr h
  more Asks es f s t (inl h) = inr (inl h.clock)
  more Asks es f s t (inr h) = inr (inr h)
  more (Takes asked term) es f s t (inl h) = absurd (none-some asked (sym h.waits ∙ f.0))
  more (Takes asked term) es f s t (inr h) = inr h

  ahead : (between : List Event) → Ahead until (client before) → Lawful (between ++ before) → Never starts before between → Never tarries before between →
      Ahead until (client (between ++ before)) ⊎ AsksBy until before between
  unfolding Never Lawful
  ahead [] b f s t = inl b
  ahead (e ∷ es) b f s t = more e es f.0 s.0 t.0 (ahead es b f.1 s.1 t.1)

still : (until : ℕ) (c : Client) (A : Type 0) → Ahead until c ⊎ A → StillUses until c ⊎ A
still until c A (inl h) = inl (record { uses = h.uses; within = h.clock })
still until c A (inr a) = inr a

fits-before : (between before : List Event) → Lawful (between ++ before) → Lawful before
unfolding Lawful
fits-before [] before f = f
fits-before (e ∷ es) before f = fits-before es before f.1

taken : (before : List Event) (asked term : ℕ) → Lawful (Takes asked term ∷ before) → 60 ≤ term → Ahead (asked + term) (client (Takes asked term ∷ before))
unfolding client Lawful
taken before asked term f l = record { uses = refl; waits = refl; clock = f.0.1; next = omega (arith, renewal-most term l) }

pub asks_in_time : AsksInTime
asks_in_time before between asked term f l s t =
    still (asked + term) (client (between ++ (Takes asked term ∷ before))) (AsksBy (asked + term) (Takes asked term ∷ before) between)
    (ahead (asked + term) (Takes asked term ∷ before) between (taken before asked term (fits-before between (Takes asked term ∷ before) f) l) f s t)
