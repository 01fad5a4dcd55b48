-- A device's life: what holds at its start and stays with each operation.
use Rattle.std.proofs.Common.{◌≡◌, ℕ, ◌<◌, ◌≤◌, max, Bool, true, false, cond, ◌||◌, ◌⊎◌, List, [], ◌∷◌, ◌++◌, length, Some, None, sym, refl, ap, ◌∙◌, subst, inl, inr, arith}
use Rattle.std.proofs.lemmas.Bool.{cond-true, both_ways, le-leb, cases_eq}
use Rattle.lease.specs.declared.lease.Lease.{Lease}
use Rattle.journal.specs.Place.{Blank}
use Rattle.journal.specs.Table.{Table, empty, set, kept, kept_of, Agree, Filed}
use Rattle.journal.specs.Device.{Row0, Device, Choice, New, Lost, Found, high, chosen, is_found, Cursor, fresh, cursor, leases, leases_at}
use Rattle.journal.specs.Append.{writes}
use Rattle.journal.specs.Crash.{cut_at, lands, Damaged}
use Rattle.journal.specs.Run.{Operation, Append, Crash, Restart, Clock, Damage, State, start, planned, step, run, Allowed, Each, Any}
use Rattle.journal.specs.Laws.{Sound, Ready, AllSurvive, Spares, AnsweredStays, Writes, NoneAppears}
use Rattle.journal.proofs.Reading.{none_read}
use Rattle.journal.proofs.Tables.{set_same, set_other, none-some, same_some, kept-some, agree_set, agree_later, agree_join, filed-empty, filed-table}
use Rattle.journal.proofs.Choosing.{damaged_found, damaged_leases, damaged_cursor, high-below}
use Rattle.journal.proofs.Appends.{append_stands, append_survives}

-- what holds all along
pub record Holds (R n : ℕ) (s : State) : Type 0 where
  pub ready : Ready R n s.latest s.device s.cursor s.memory
  pub told : Agree n s.latest s.memory s.told
  pub found : is_found (chosen R s.device) ≡ s.begun
  pub behind : s.clock ≤ s.latest

pub filed-at : (R : ℕ) (d : Device) (c : Choice) → Filed (leases_at R d c)
filed-at R d New = filed-empty
filed-at R d Lost = filed-empty
filed-at R d (Found s) = filed-table (d s) _

pub none-at : (R : ℕ) (d : Device) (c : Choice) → is_found c ≡ false → (a : ℕ) → leases_at R d c a ≡ None
none-at R d New e a = refl
none-at R d Lost e a = refl
none-at R d (Found s) e a = absurd (both_ways _ e refl)

-- a server that has read its device
pub reread : (R n then : ℕ) (d : Device) → Sound R d → Ready R n then d (cursor R d) (leases R d)
reread R n then d s =
    record { sound = s; same = refl; agrees = λ a l. refl; filed = filed-at R d (chosen R d); none = none-at R d (chosen R d) }

later : (R n then last : ℕ) (d : Device) (c : Cursor) (u : Table) → then ≤ last → Ready R n then d c u → Ready R n last d c u
later R n then last d c u l r =
    record { sound = r.sound; same = r.same; agrees = agree_later n then last (leases R d) u l r.agrees; filed = r.filed; none = r.none }

cond_agree : (n now : ℕ) (b : Bool) (x : Lease) (t u : Table) → Agree n now t u → Agree n now (cond b (set x t) t) (cond b (set x u) u)
cond_agree n now true x t u h = agree_set n now x t u h
cond_agree n now false x t u h = h

module _ (R n : ℕ) (room : n < R) where
  pub stepped : (o : Operation) (s : State) → Allowed R o → Holds R n s → Holds R n (step R n o s)
  stepped (Append x) s a h =
      let q = append_stands R n s.clock s.latest s.device s.cursor s.memory x room h.behind h.ready in
      record { ready = q.0; told = agree_set n s.latest x s.memory s.told h.told; found = q.1; behind = h.behind }
  stepped (Crash x i c) s a h =
      let q = append_survives R n s.clock s.latest s.device s.cursor s.memory x i c room h.behind h.ready in
      record {
        ready = reread R n s.latest (cut_at i c (writes (planned R n s) x) s.device) q.sound;
        told = agree_join n s.latest (leases R (cut_at i c (writes (planned R n s) x) s.device)) (cond (lands i c (length (writes (planned R n s) x))) (set x s.memory) s.memory) _
            q.table (cond_agree n s.latest (lands i c (length (writes (planned R n s) x))) x s.memory s.told h.told);
        found = q.found ∙ ap (λ (b : Bool). b || lands i c (length (writes (planned R n s) x))) h.found;
        behind = h.behind;
      }
  stepped Restart s a h =
      record {
        ready = reread R n s.latest s.device h.ready.sound;
        told = agree_join n s.latest (leases R s.device) s.memory s.told h.ready.agrees h.told;
        found = h.found;
        behind = h.behind;
      }
  stepped (Clock t) s a h =
      record {
        ready = later R n s.latest (max s.latest t) s.device s.cursor s.memory (omega arith) h.ready;
        told = agree_later n s.latest (max s.latest t) s.memory s.told (omega arith) h.told;
        found = h.found;
        behind = omega arith;
      }
  stepped (Damage d) s a h =
      record {
        ready = reread R n s.latest d (inl a);
        told = subst (λ (v : Table). Agree n s.latest v empty) (sym (damaged_leases R d a)) (λ a l. refl);
        found = damaged_found R d a;
        behind = h.behind;
      }

  pub holding : (os : List Operation) (s : State) → Each (Allowed R) os → Holds R n s → Holds R n (run R n os s)
  unfolding run
  holding [] s a h = h
  holding (o ∷ os) s a h = holding os (step R n o s) a.1 (stepped o s a.0 h)

  blank_damaged : Damaged R (λ s k. Blank)
  blank_damaged s = none_read R (λ k. Blank) (λ q. refl)

  blank-high : high R (λ s k. Blank) ≡ 0
  blank-high = let z : high R (λ s k. Blank) ≤ 0 = high-below R (λ s k. Blank) 0 Row0 (λ k l. omega arith) (λ k l. omega arith) in omega arith

  pub starts : Holds R n (start R)
  starts =
      record {
        ready = record {
          sound = inl blank_damaged;
          same = ap (fresh R) (sym blank-high) ∙ sym (damaged_cursor R (λ s k. Blank) blank_damaged);
          agrees = subst (λ (v : Table). Agree n 0 v empty) (sym (damaged_leases R (λ s k. Blank) blank_damaged)) (λ a l. refl);
          filed = filed-empty;
          none = λ e a. refl;
        };
        told = λ a l. refl;
        found = damaged_found R (λ s k. Blank) blank_damaged;
        behind = omega arith;
      }

  pub living : (os : List Operation) → Each (Allowed R) os → Holds R n (run R n os (start R))
  living os a = holding os (start R) a starts

pub all_survive : AllSurvive
all_survive R n os room a =
    let h : Holds R n (run R n os (start R)) = living R n room os a in
    record {
      table = agree_join n (run R n os (start R)).latest (leases R (run R n os (start R)).device) (run R n os (start R)).memory (run R n os (start R)).told h.ready.agrees h.told;
      memory = h.told;
      found = h.found;
      cursor = h.ready.same;
    }

-- what is told stays at the address of `x` while nothing is written there
spared : (R n : ℕ) (x : Lease) (o : Operation) (s : State) → Spares x o → s.told x.address ≡ Some x → (step R n o s).told x.address ≡ Some x
spared R n x (Append y) s h e = set_other y s.told x.address (λ z. h (sym z)) ∙ e
spared R n x (Crash y i c) s h e = go (lands i c (length (writes (planned R n s) y)))
  where
    go : (b : Bool) → cond b (set y s.told) s.told x.address ≡ Some x
    go true = set_other y s.told x.address (λ z. h (sym z)) ∙ e
    go false = e
spared R n x Restart s h e = e
spared R n x (Clock t) s h e = e
spared R n x (Damage d) s h e = absurd h

all-spared : (R n : ℕ) (x : Lease) (ps : List Operation) (s : State) → Each (Spares x) ps → s.told x.address ≡ Some x → (run R n ps s).told x.address ≡ Some x
unfolding run
all-spared R n x [] s h e = e
all-spared R n x (o ∷ ps) s h e = all-spared R n x ps (step R n o s) h.1 (spared R n x o s h.0 e)

told-after : (R n : ℕ) (os ps : List Operation) (x : Lease) (s : State) → Each (Spares x) ps → (run R n (os ++ (Append x ∷ ps)) s).told x.address ≡ Some x
unfolding run
told-after R n [] ps x s h = all-spared R n x ps (step R n (Append x) s) h (set_same x s.told x.address refl)
told-after R n (o ∷ os) ps x s h = told-after R n os ps x (step R n o s) h

pub answered_stays : AnsweredStays
answered_stays R n os ps x room a h l e =
    let s : State = run R n (os ++ (Append x ∷ ps)) (start R) in
    kept-some s.latest (leases R s.device x.address) x
    ((all_survive R n (os ++ (Append x ∷ ps)) room a).table x.address l
    ∙ ap (kept_of s.latest) (told-after R n os ps x (start R) h)
    ∙ cond-true (kept s.latest x) (Some x) None (le-leb s.latest x.expires e))

-- what is told was written, at its address
placed : (y : Lease) (t : Table) (a : ℕ) (x : Lease) → set y t a ≡ Some x → ((y ≡ x) × (x.address ≡ a)) ⊎ (t a ≡ Some x)
placed y t a x e =
    elim (cases_eq a y.address) [
      | inl q ↦ let z : y ≡ x = same_some y x (sym (set_same y t a q) ∙ e) in inl (z, ap (λ (v : Lease). v.address) (sym z) ∙ sym q)
      | inr q ↦ inr (sym (set_other y t a q) ∙ e)
    ]

told_by_lem : (R n : ℕ) (o : Operation) (s : State) (a : ℕ) (x : Lease) → (step R n o s).told a ≡ Some x → (Writes x o × (x.address ≡ a)) ⊎ (s.told a ≡ Some x)
told_by_lem R n (Append y) s a x e = placed y s.told a x e
told_by_lem R n (Crash y i c) s a x e = go (lands i c (length (writes (planned R n s) y))) e
  where
    go : (b : Bool) → cond b (set y s.told) s.told a ≡ Some x → ((y ≡ x) × (x.address ≡ a)) ⊎ (s.told a ≡ Some x)
    go true e = placed y s.told a x e
    go false e = inr e
told_by_lem R n Restart s a x e = inr e
told_by_lem R n (Clock t) s a x e = inr e
told_by_lem R n (Damage d) s a x e = absurd (none-some x e)

told-written : (R n : ℕ) (os : List Operation) (s : State) (a : ℕ) (x : Lease) → (run R n os s).told a ≡ Some x → (Any (Writes x) os × (x.address ≡ a)) ⊎ (s.told a ≡ Some x)
unfolding run
told-written R n [] s a x e = inr e
told-written R n (o ∷ os) s a x e =
    elim (told-written R n os (step R n o s) a x e) [
      | inl q ↦ inl (inr q.0, q.1)
      | inr q ↦ elim (told_by_lem R n o s a x q) [ inl z ↦ inl (inl z.0, z.1) | inr z ↦ inr z ]
    ]

pub none_appears : NoneAppears
none_appears R n os a x room h l e q =
    let s : State = run R n os (start R) in
    let t : s.told a ≡ Some x = kept-some s.latest (s.told a) x
    (sym ((all_survive R n os room h).table a l) ∙ ap (kept_of s.latest) e ∙ cond-true (kept s.latest x) (Some x) None (le-leb s.latest x.expires q)) in
    elim (told-written R n os (start R) a x t) [ inl z ↦ z | inr z ↦ absurd (none-some x z) ]
