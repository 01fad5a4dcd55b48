-- What a grant that is taken makes of a holder.
-- Assumes nothing.
use Rattle.std.proofs.Common.{◌≡◌, ℕ, ◌+◌, ◌≤◌, true, eqb, leb, IfOk, Some, None, Option, refl}
use Rattle.std.proofs.lemmas.Bool.{cond_both, both_ways, leb-true}
use Rattle.lease.specs.declared.message.Grant.{Grant}
use Rattle.lease.specs.Holding.{Wait, taken, taking_for}
use Rattle.lease.specs.World as world
use Rattle.lease.specs.Run.{with_holding, held_by, hearing}

-- the request that waited, and that the grant didn't come too late
pub record Took (term : ℕ) (g : Grant) (x h : world.Client) : Type 0 where
  pub wait : Wait
  pub waits : x.holding.waits ≡ Some wait
  pub soon : x.clock ≤ wait.asked + term
  pub is : h ≡ with_holding x (taken term g.address wait.asked)

module _ (term : ℕ) (g : Grant) (x : world.Client) where
  waited : (o : Option Wait) → x.holding.waits ≡ o → IfOk (held_by x (taking_for term x.clock g o)) (λ h. Took term g x h)
  waited None e = tt
  waited (Some q) e =
      cond_both (eqb g.nonce q.nonce) _ _ (λ r. IfOk (held_by x r) (λ h. Took term g x h))
      (λ same. cond_both (leb x.clock (q.asked + term)) _ _ (λ r. IfOk (held_by x r) (λ h. Took term g x h))
      (λ soon. record { wait = q; waits = e; soon = leb-true _ _ soon; is = refl })
      (λ late. tt))
      (λ other. tt)

  pub took : (own : ℕ) → x.up ≡ true → IfOk (hearing term own g x) (λ h. Took term g x h)
  took own up =
      cond_both x.up _ _ (λ r. IfOk r (λ h. Took term g x h))
      (λ e. cond_both (eqb g.client own) _ _ (λ r. IfOk (held_by x r) (λ h. Took term g x h)) (λ f. waited x.holding.waits refl) (λ f. tt))
      (λ down. absurd (both_ways x.up down up))
