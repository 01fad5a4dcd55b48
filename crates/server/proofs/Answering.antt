-- What a server answers depends on the leases that are live alone.
-- Assumes nothing.
use Rattle.std.proofs.Common.{◌≡◌, ℕ, zero, suc, ◌+◌, ◌<◌, Bool, true, false, cond, not, ◌&&◌, eqb, ltb, Some, None, Option, sym, refl, ap, ◌∙◌, inl, inr, arith}
use Rattle.std.proofs.lemmas.Bool.{and_right, cases_Bool, cond_both, ltb-true, not_from_false, or_right}
use Rattle.lease.specs.declared.lease.Lease.{Lease}
use Rattle.lease.specs.declared.message.Request.{Request}
use Rattle.lease.specs.Settings.{Settings}
use Rattle.lease.specs.Table.{Table, free, live, owned, vacant}
use Rattle.lease.specs.Choosing.{choose, lowest, or_else}
use Rattle.lease.specs.World.{Server}
use Rattle.lease.specs.Run.{answer, answered}
use Rattle.journal.specs.Table.{Agree, kept, kept_of}

module _ (now c : ℕ) where
  owned-kept : (e : Option Lease) → owned now c e ≡ owned now c (kept_of now e)
  owned-kept None = refl
  owned-kept (Some l) = cond_both (kept now l) (Some l) None (λ q. owned now c (Some l) ≡ owned now c q) (λ e. refl) (λ e. and_right (eqb l.client c) (live now l) e)

  vacant-kept : (e : Option Lease) → vacant now e ≡ vacant now (kept_of now e)
  vacant-kept None = refl
  vacant-kept (Some l) = cond_both (kept now l) (Some l) None (λ q. vacant now (Some l) ≡ vacant now q) (λ e. refl) (λ e. not_from_false (live now l) e)

  free-kept : (e : Option Lease) → free now c e ≡ free now c (kept_of now e)
  free-kept None = refl
  free-kept (Some l) =
      cond_both (kept now l) (Some l) None (λ q. free now c (Some l) ≡ free now c q) (λ e. refl) (λ e. or_right (eqb l.client c) (not (live now l)) (not_from_false (live now l) e))

  by_kept : (f : Option Lease → Bool) → ((e : Option Lease) → f e ≡ f (kept_of now e)) → (o p : Option Lease) → kept_of now o ≡ kept_of now p → f o ≡ f p
  by_kept f h o p e = h o ∙ ap f e ∙ sym (h p)

lowest-same : (f g : ℕ → Bool) (a k : ℕ) → ((j : ℕ) → j < a + k → f j ≡ g j) → lowest f a k ≡ lowest g a k
unfolding lowest
lowest-same f g a zero h = refl
lowest-same f g a (suc k) h =
    ap (λ (b : Bool). cond b (Some a) (lowest f (a + 1) k)) (h a (omega arith)) ∙ ap (λ (o : Option ℕ). cond (g a) (Some a) o) (lowest-same f g (a + 1) k (λ j l. h j (omega arith)))

module _ (n now : ℕ) (t u : Table) (r : Request) (h : Agree n now t u) where
  abbrev c : ℕ
  c = r.client

  abbrev preferred : Table → Option ℕ
  preferred x = cond (ltb r.preferred n && free now c (x r.preferred)) (Some r.preferred) None

  abbrev own : Table → Option ℕ
  own x = lowest (λ a. owned now c (x a)) 0 n

  abbrev vacancy : Table → Option ℕ
  vacancy x = lowest (λ a. vacant now (x a)) 0 n

  preferred-same : preferred t ≡ preferred u
  preferred-same =
      elim (cases_Bool (ltb r.preferred n)) [
        | inl e ↦ ap (λ (b : Bool). cond (ltb r.preferred n && b) (Some r.preferred) None)
            (by_kept now c (free now c) (free-kept now c) (t r.preferred) (u r.preferred) (h r.preferred (ltb-true r.preferred n e)))
        | inr e ↦
            ap (λ (b : Bool). cond (b && free now c (t r.preferred)) (Some r.preferred) None) e
            ∙ sym (ap (λ (b : Bool). cond (b && free now c (u r.preferred)) (Some r.preferred) None) e)
      ]

  pub choose-same : choose n now t r ≡ choose n now u r
  choose-same =
      ap (λ (o : Option ℕ). or_else o (or_else (preferred t) (vacancy t))) (lowest-same (λ a. owned now c (t a)) (λ a. owned now c (u a)) 0 n (λ j l. by_kept now c (owned now c) (owned-kept now c) (t j) (u j) (h j (omega arith))))
      ∙ ap (λ (o : Option ℕ). or_else (own u) (or_else o (vacancy t))) preferred-same
      ∙ ap (λ (o : Option ℕ). or_else (own u) (or_else (preferred u) o)) (lowest-same (λ a. vacant now (t a)) (λ a. vacant now (u a)) 0 n (λ j l. by_kept now c (vacant now) (vacant-kept now c) (t j) (u j) (h j (omega arith))))

abbrev pub server_at : (clock : ℕ) (up : Bool) → Option ℕ → Table → Server
server_at clock up o t = record { clock = clock; up = up; silent = o; table = t }

pub answer-same : (k : Settings) (now : ℕ) (t u : Table) (r : Request) (up : Bool) (o : Option ℕ) → (up ≡ true → Agree k.addresses now t u) →
    answer k (server_at now up o t) r ≡ answer k (server_at now up o u) r
answer-same k now t u r true None h = ap (answered r) (choose-same k.addresses now t u r (h refl))
answer-same k now t u r true (Some q) h = refl
answer-same k now t u r false o h = refl
