-- Two requests lie apart: whatever happens after a request, the next isn't due before its time.
-- Assumes nothing.
use Rattle.std.proofs.Common.{◌≡◌, ℕ, ◌+◌, ◌-◌, ◌≤◌, true, false, List, [], ◌∷◌, ◌++◌, Some, None, Option, refl, arith}
use Rattle.std.proofs.lemmas.Bool.{cond_both, leb-true, both_ways}
use Rattle.std.proofs.lemmas.Option.{same_Some, none-some}
use Rattle.retry.specs.declared.schedule.Schedule.{Schedule}
use Rattle.retry.specs.Schedule.{requested}
use Rattle.retry.specs.Run.{Client, Event, Starts, Ticks, Asks, Takes, over, step, client, Fits, Lawful}
use Rattle.retry.specs.Pacing.{starts, loses, Never, FourApart, SixtyApart}
use Rattle.retry.proofs.Steps.{lasts-within, renewal-least, requested-some}

requested-least : (s : Schedule) (now : ℕ) (o : Option ℕ) → now + 4 ≤ (requested s now o).next
requested-least s now None = omega (arith, (lasts-within s.pause).0)
requested-least s now (Some u) = omega (arith, renewal-least (u - now))

-- a moment after the request sent at `q`
record After (q : ℕ) (c : Client) : Type 0 where
  pub clock : q ≤ c.clock
  pub waits : (a : ℕ) → c.waits ≡ Some a → q ≤ a

after-step : (q : ℕ) (c : Client) (e : Event) → starts c e ≡ false → After q c → After q (step e c)
after-step q c (Starts t) s h = absurd (both_ways true s refl)
after-step q c Ticks s h =
    cond_both (over (c.clock + 1) c.uses) _ _ (λ (x : Client). After q x)
    (λ e. record { clock = omega (arith, h.clock); waits = h.waits })
    (λ e. record { clock = omega (arith, h.clock); waits = h.waits })
after-step q c Asks s h = record { clock = h.clock; waits = λ a e. omega (arith, h.clock, same_Some c.clock a e) }
after-step q c (Takes asked term) s h = record { clock = h.clock; waits = λ a e. absurd (none-some a e) }

-- while no address is lost, nothing is due before `q + 4`
four_step : (q : ℕ) (c : Client) (e : Event) → Fits e c → starts c e ≡ false → loses c e ≡ false → After q c → q + 4 ≤ c.schedule.next → q + 4 ≤ (step e c).schedule.next
four_step q c (Starts t) f s l h n = absurd (both_ways true s refl)
four_step q c Ticks f s l h n =
    cond_both (over (c.clock + 1) c.uses) _ _ (λ (x : Client). q + 4 ≤ x.schedule.next)
    (λ e. absurd (both_ways _ l e))
    (λ e. n)
four_step q c Asks f s l h n = omega (arith, h.clock, requested-least c.schedule c.clock c.uses)
four_step q c (Takes asked term) f s l h n = omega (arith, h.waits asked f.0, renewal-least term)

-- while an address is used, nothing is due before `q + 60`
Sixty : ℕ → Client → Type 0
Sixty q c = (u : ℕ) → c.uses ≡ Some u → q + 60 ≤ c.schedule.next

sixty_step : (q : ℕ) (c : Client) (e : Event) → Fits e c → starts c e ≡ false → After q c → Sixty q c → Sixty q (step e c)
unfolding Sixty
sixty_step q c (Starts t) f s h n = absurd (both_ways true s refl)
sixty_step q c Ticks f s h n =
    cond_both (over (c.clock + 1) c.uses) _ _ (λ (x : Client). Sixty q x)
    (λ e u g. absurd (none-some u g))
    (λ e. n)
sixty_step q c Asks f s h n = λ u g. omega (arith, h.clock, requested-some c.schedule c.clock u c.uses g, renewal-least (u - c.clock))
sixty_step q c (Takes asked term) f s h n = λ u g. omega (arith, h.waits asked f.0, renewal-least term)

module _ (before : List Event) where
  asked-at : After (client before).clock (client (Asks ∷ before))
  unfolding client
  asked-at = record { clock = omega arith; waits = λ a e. omega (arith, same_Some (client before).clock a e) }

  after : (between : List Event) → Never starts (Asks ∷ before) between → After (client before).clock (client (between ++ (Asks ∷ before)))
  unfolding Never client
  after [] s = asked-at
  after (e ∷ es) s = after-step _ _ e s.0 (after es s.1)

  four : (between : List Event) → Lawful (between ++ (Asks ∷ before)) → Never starts (Asks ∷ before) between → Never loses (Asks ∷ before) between →
      (client before).clock + 4 ≤ (client (between ++ (Asks ∷ before))).schedule.next
  unfolding Never Lawful client
  four [] f s l = requested-least (client before).schedule (client before).clock (client before).uses
  four (e ∷ es) f s l = four_step _ _ e f.0 s.0 l.0 (after es s.1) (four es f.1 s.1 l.1)

  sixty : (between : List Event) → Lawful (between ++ (Asks ∷ before)) → Never starts (Asks ∷ before) between →
      Sixty (client before).clock (client (between ++ (Asks ∷ before)))
  unfolding Never Lawful client Sixty
  sixty [] f s =
      λ u g. omega (arith, requested-some (client before).schedule (client before).clock u (client before).uses g, renewal-least (u - (client before).clock))
  sixty (e ∷ es) f s = sixty_step _ _ e f.0 s.0 (after es s.1) (sixty es f.1 s.1)

pub four_apart : FourApart
unfolding Lawful
four_apart before between f s l =
    let due : (client (between ++ (Asks ∷ before))).schedule.next ≤ (client (between ++ (Asks ∷ before))).clock = leb-true _ _ f.0 in
    omega (arith, four before between f.1 s l)

pub sixty_apart : SixtyApart
unfolding Lawful Sixty
sixty_apart before between f s until g =
    let due : (client (between ++ (Asks ∷ before))).schedule.next ≤ (client (between ++ (Asks ∷ before))).clock = leb-true _ _ f.0 in
    omega (arith, sixty before between f.1 s until g)
