-- No sequence number stands twice on a device that was never damaged.
use Rattle.std.proofs.Common.{◌≡◌, ℕ, zero, suc, ◌+◌, ◌<◌, ◌≤◌, ltb, ◌⊎◌, List, [], ◌∷◌, sym, refl, ap, ◌∙◌, subst, inl, inr, arith}
use Rattle.std.proofs.lemmas.Bool.{cond_both, ltb-true, cases_eq}
use Rattle.lease.specs.declared.lease.Lease.{Lease}
use Rattle.journal.specs.declared.record.Record.{Record}
use Rattle.journal.specs.Place.{Place, Blank, Torn, Holds, height}
use Rattle.journal.specs.Table.{Table}
use Rattle.journal.specs.Device.{Side, Row0, Row1, Device, high, Cursor}
use Rattle.journal.specs.Append.{Plan, plan, at, put, numbered, perform}
use Rattle.journal.specs.Crash.{Cut, Untouched, Whole, Tears, Zeroes, cut_at}
use Rattle.journal.specs.Run.{Operation, Append, Crash, Restart, Clock, Damage, State, start, step, run, Allowed, Each}
use Rattle.journal.specs.Laws.{Sound, Ready, Undamaged, Distinct, NoneTwice}
use Rattle.journal.proofs.Reading.{at_same, at_other}
use Rattle.journal.proofs.Choosing.{settled-cursor, damaged_cursor, below-high, settled-high}
use Rattle.journal.proofs.Runs as runs

-- everything that fits is below `q`
abbrev Below : ℕ → Device → ℕ → Type 0
Below R d q = (t : Side) (j : ℕ) → j < R → height (d t j) < q

at-cases : (k j : ℕ) (p : Place) (row : ℕ → Place) → ((j ≡ k) × (at k p row j ≡ p)) ⊎ (at k p row j ≡ row j)
at-cases k j p row = elim (cases_eq j k) [ inl e ↦ inl (e, ap (at k p row) e ∙ at_same k p row) | inr e ↦ inr (at_other k j p row e) ]

put-cases : (s t : Side) (k j : ℕ) (p : Place) (d : Device) → ((t ≡ s) × (j ≡ k) × (put s k p d t j ≡ p)) ⊎ (put s k p d t j ≡ d t j)
put-cases Row0 Row0 k j p d = elim (at-cases k j p (d Row0)) [ inl q ↦ inl (refl, q.0, q.1) | inr q ↦ inr q ]
put-cases Row0 Row1 k j p d = inr refl
put-cases Row1 Row0 k j p d = inr refl
put-cases Row1 Row1 k j p d = elim (at-cases k j p (d Row1)) [ inl q ↦ inl (refl, q.0, q.1) | inr q ↦ inr q ]

module _ (R : ℕ) (s : Side) (k : ℕ) where
  put_distinct : (p : Place) (d : Device) → ((r : Record) → p ≡ Holds r → Below R d r.sequence) → Distinct R d → Distinct R (put s k p d)
  put_distinct p d above h v w i j x y l m e f z =
      elim (put-cases s v k i p d) [
        | inl a ↦ elim (put-cases s w k j p d) [
          | inl b ↦ (a.0 ∙ sym b.0, a.1 ∙ sym b.1)
          | inr b ↦ absurd (let o : height (d w j) < x.sequence = above x (sym a.2 ∙ e) w j m in let t : height (d w j) ≡ y.sequence = ap height (sym b ∙ f) in omega arith)
        ]
        | inr a ↦ elim (put-cases s w k j p d) [
          | inl b ↦ absurd (let o : height (d v i) < y.sequence = above y (sym b.2 ∙ f) v i l in let t : height (d v i) ≡ x.sequence = ap height (sym a ∙ e) in omega arith)
          | inr b ↦ h v w i j x y l m (sym a ∙ e) (sym b ∙ f) z
        ]
      ]

  put-below : (q : ℕ) (p : Place) (d : Device) → height p ≤ q → Below R d q → Below R (put s k p d) (suc q)
  put-below q p d l h t j m =
      elim (put-cases s t k j p d) [
        | inl a ↦ let z : height (put s k p d t j) ≡ height p = ap height a.2 in omega arith
        | inr a ↦ let z : height (put s k p d t j) ≡ height (d t j) = ap height a in let y : height (d t j) < q = h t j m in omega arith
      ]

  written : (q b : ℕ) (x : Lease) (d : Device) → Below R d q → Distinct R d → Distinct R (put s k (Holds (record { sequence = q; base = b; lease = x })) d)
  written q b x d l h = put_distinct (Holds (record { sequence = q; base = b; lease = x })) d (λ r e. subst (λ (n : ℕ). Below R d n) (number q b x r e) l) h
    where
      number : (q b : ℕ) (x : Lease) (r : Record) → Holds (record { sequence = q; base = b; lease = x }) ≡ Holds r → q ≡ r.sequence
      number q b x r e = ap height e

no_record : (p : Place) (r : Record) → (p ≡ Torn) ⊎ (p ≡ Blank) → p ≡ Holds r → ⊥
no_record p r (inl e) h = let z : ◌≡◌ {A = ℕ} 0 1 = cc in omega arith
no_record p r (inr e) h = let z : ◌≡◌ {A = ℕ} 0 1 = cc in omega arith

performed : (R : ℕ) (s : Side) (k q b : ℕ) (xs : List Lease) (d : Device) → Below R d q → Distinct R d → Distinct R (perform (numbered s k q b xs) d)
unfolding numbered perform
performed R s k q b [] d l h = h
performed R s k q b (x ∷ xs) d l h =
    performed R s (suc k) (suc q) b xs _ (put-below R s k q (Holds (record { sequence = q; base = b; lease = x })) d (omega arith) l) (written R s k q b x d l h)

cut : (R : ℕ) (s : Side) (k q b : ℕ) (xs : List Lease) (d : Device) (i : ℕ) (c : Cut) → Below R d q → Distinct R d → Distinct R (cut_at i c (numbered s k q b xs) d)
unfolding numbered cut_at
cut R s k q b [] d i c l h = h
cut R s k q b (x ∷ xs) d zero Untouched l h = h
cut R s k q b (x ∷ xs) d zero Whole l h = written R s k q b x d l h
cut R s k q b (x ∷ xs) d zero Tears l h = put_distinct R s k Torn d (λ r e. absurd (no_record Torn r (inl refl) e)) h
cut R s k q b (x ∷ xs) d zero Zeroes l h = put_distinct R s k Blank d (λ r e. absurd (no_record Blank r (inr refl) e)) h
cut R s k q b (x ∷ xs) d (suc i) c l h =
    cut R s (suc k) (suc q) b xs _ i c (put-below R s k q (Holds (record { sequence = q; base = b; lease = x })) d (omega arith) l) (written R s k q b x d l h)

-- an append's numbers are above all that fits
above : (R n then now : ℕ) (d : Device) (c : Cursor) (u : Table) → Ready R n then d c u → Below R d ((plan R n now c u).first + (plan R n now c u).place)
above R n then now d c u r = go r.sound
  where
    under : Plan → Type 0
    under p = Below R d (p.first + p.place)

    begins : (v : Side) (xs : List Lease) (b : ℕ) → Below R d (suc (high R d) + 0)
    begins v xs b t j l = let z : height (d t j) ≤ high R d = below-high R d t j l in omega arith

    go : Sound R d → Below R d ((plan R n now c u).first + (plan R n now c u).place)
    go (inl w) =
        subst (λ (c : Cursor). Below R d ((plan R n now c u).first + (plan R n now c u).place)) (sym (r.same ∙ damaged_cursor R d w))
        (cond_both (ltb R R) _ _ (λ (p : Plan). Below R d (p.first + p.place)) (λ e. absurd (let z : R < R = ltb-true R R e in omega arith)) (λ e. begins Row0 [] 0))
    go (inr (s, k, f, b, t)) =
        subst (λ (c : Cursor). Below R d ((plan R n now c u).first + (plan R n now c u).place)) (sym (r.same ∙ settled-cursor R d s k f b t (high R d) refl))
        (cond_both (ltb k R) _ _ (λ (p : Plan). Below R d (p.first + p.place))
        (λ e v j l. let y : high R d < f + k = settled-high R d s k f b t (ltb-true k R e) in let z : height (d v j) ≤ high R d = below-high R d v j l in omega arith)
        (λ e. begins s [] 0))

stepped : (R n : ℕ) (o : Operation) (s : State) → Undamaged o → runs.Holds R n s → Distinct R s.device → Distinct R (step R n o s).device
stepped R n (Append x) s a h d = performed R _ _ _ _ _ s.device (above R n s.latest s.clock s.device s.cursor s.memory h.ready) d
stepped R n (Crash x i c) s a h d = cut R _ _ _ _ _ s.device i c (above R n s.latest s.clock s.device s.cursor s.memory h.ready) d
stepped R n Restart s a h d = d
stepped R n (Clock t) s a h d = d
stepped R n (Damage e) s a h d = absurd a

allowed : (R : ℕ) (o : Operation) → Undamaged o → Allowed R o
allowed R (Append x) h = tt
allowed R (Crash x i c) h = tt
allowed R Restart h = tt
allowed R (Clock t) h = tt
allowed R (Damage d) h = absurd h

lived : (R n : ℕ) (os : List Operation) (s : State) → n < R → Each Undamaged os → runs.Holds R n s → Distinct R s.device → Distinct R (run R n os s).device
unfolding run
lived R n [] s room a h d = d
lived R n (o ∷ os) s room a h d = lived R n os (step R n o s) room a.1 (runs.stepped R n room o s (allowed R o a.0) h) (stepped R n o s a.0 h d)

pub none-twice : NoneTwice
none-twice R n os room a =
    lived R n os (start R) room a (runs.starts R n room) (λ s t j k p q l m e f z. absurd (no_record Blank p (inr refl) e))
