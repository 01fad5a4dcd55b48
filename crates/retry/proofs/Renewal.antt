-- When a renewal is due, by how long ago the last request was and how much of the use was left then.
-- Assumes nothing.
use Rattle.std.proofs.Common.{◌≡◌, ℕ, ◌+◌, ◌-◌, ◌*◌, ◌/◌, ◌≤◌, true, false, ◌&&◌, leb, List, [], ◌∷◌, ◌++◌, Some, sym, refl, ap, ◌∙◌, inl, inr, arith}
use native.Mathlib.Nat.{le-max_left, le-max_right, max-le}
use Rattle.std.proofs.lemmas.Bool.{cond_both, le-leb, lt-leb, both_ways, cases_lt, and_from, and_left, and_right}
use Rattle.std.proofs.lemmas.Option.{same_Some, none-some}
use Rattle.retry.specs.Schedule.{renewal}
use Rattle.retry.specs.Run.{Client, Event, Starts, Ticks, Asks, Takes, over, step, client, Fits, Lawful}
use Rattle.retry.specs.Pacing.{starts, asks, Never, Halfway}
use Rattle.retry.proofs.Steps.{requested-some}

half_past : (q now left : ℕ) → q ≤ now → leb (q + renewal left) now ≡ (leb 60 (now - q) && leb left (2 * (now - q)))
half_past q now left l =
    elim (cases_lt (now - q) 60) [
      | inl f ↦ lt-leb _ _ (omega (arith, le-max_right ((left + 1) / 2) 60)) ∙ sym (and_left _ _ (lt-leb _ _ f))
      | inr g ↦ elim (cases_lt (2 * (now - q)) left) [
        | inl f ↦ lt-leb _ _ (omega (arith, le-max_left ((left + 1) / 2) 60)) ∙ sym (and_right _ _ (lt-leb _ _ f))
        | inr h ↦
            let a : (left + 1) / 2 ≤ now - q = omega arith in
            let m : renewal left ≤ now - q = max-le a g in
            le-leb _ _ (omega arith) ∙ sym (and_from _ _ (le-leb _ _ g) (le-leb _ _ h))
      ]
    ]

-- the last request was sent at `q`
record Last (q : ℕ) (c : Client) : Type 0 where
  pub clock : q ≤ c.clock
  pub waits : (a : ℕ) → c.waits ≡ Some a → a ≡ q
  pub next : (u : ℕ) → c.uses ≡ Some u → c.schedule.next ≡ q + renewal (u - q)

taken : (q asked term u : ℕ) → asked ≡ q → asked + term ≡ u → asked + renewal term ≡ q + renewal (u - q)
taken q asked term u e f =
    let left : term ≡ u - q = omega arith in
    ap (λ n. asked + renewal n) left ∙ ap (λ n. n + renewal (u - q)) e

last_step : (q : ℕ) (c : Client) (e : Event) → Fits e c → starts c e ≡ false → asks c e ≡ false → Last q c → Last q (step e c)
last_step q c (Starts t) f s a h = absurd (both_ways true s refl)
last_step q c Ticks f s a h =
    cond_both (over (c.clock + 1) c.uses) _ _ (λ (x : Client). Last q x)
    (λ e. record { clock = omega (arith, h.clock); waits = h.waits; next = λ u g. absurd (none-some u g) })
    (λ e. record { clock = omega (arith, h.clock); waits = h.waits; next = h.next })
last_step q c Asks f s a h = absurd (both_ways true a refl)
last_step q c (Takes asked term) f s a h =
    record {
      clock = h.clock;
      waits = λ b e. absurd (none-some b e);
      next = λ u g. taken q asked term u (h.waits asked f.0) (same_Some (asked + term) u g);
    }

last : (before between : List Event) → Lawful (between ++ (Asks ∷ before)) → Never starts (Asks ∷ before) between → Never asks (Asks ∷ before) between →
    Last (client before).clock (client (between ++ (Asks ∷ before)))
unfolding Never Lawful client
last before [] f s a =
    record {
      clock = omega arith;
      waits = λ b e. sym (same_Some (client before).clock b e);
      next = λ u g. requested-some (client before).schedule (client before).clock u (client before).uses g;
    }
last before (e ∷ es) f s a = last_step (client before).clock (client (es ++ (Asks ∷ before))) e f.0 s.0 a.0 (last before es f.1 s.1 a.1)

pub halfway : Halfway
halfway before between until f s a g =
    let h : Last (client before).clock (client (between ++ (Asks ∷ before))) = last before between f s a in
    ap (λ n. leb n (client (between ++ (Asks ∷ before))).clock) (h.next until g) ∙
    half_past (client before).clock (client (between ++ (Asks ∷ before))).clock (until - (client before).clock) h.clock
