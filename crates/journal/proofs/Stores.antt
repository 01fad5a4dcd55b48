-- Writes to the places of a device, in bytes and as records.
use Rattle.std.proofs.Common.{◌≡◌, ℕ, suc, ◌+◌, ◌<◌, cond, eqb, ltb, List, [], ◌∷◌, ◌++◌, length, get_or, set, Some, Option, sym, refl, ap, ◌∙◌, ap₂, inl, inr, arith, get_or-set_other, get_or-set_same}
use mathlib.Core.Path.{fun_ext}
use Rattle.std.proofs.lemmas.Bool.{cond-true, cond-false, eq-eqb, ne_eqb, lt-ltb, le-ltb, cases_eq, cases_lt}
use Rattle.lease.specs.declared.lease.Lease.{Lease}
use Rattle.journal.specs.declared.record.Record.{Record}
use Rattle.journal.specs.Place.{Place, Blank, Holds}
use Rattle.journal.specs.Bytes.{encoded, decoded, zeros, place_from, place_of}
use Rattle.journal.specs.Device.{Side, Row0, Row1, Device}
use Rattle.journal.specs.Append.{Write, numbered, put, perform}
use Rattle.journal.specs.Image.{index, device_of, stored}

-- a place that isn't written to
miss : (bs : List (List ℕ)) (i i' j : ℕ) (b : List ℕ) → (j < 4096 → i' ≡ i → ⊥) →
    cond (ltb j 4096) (place_of (get_or bs i' [])) Blank ≡ cond (ltb j 4096) (place_of (get_or (set bs i b) i' [])) Blank
miss bs i i' j b n =
    elim (cases_lt j 4096) [
      | inl l ↦ ap (λ (x : List ℕ). cond (ltb j 4096) (place_of x) Blank) (sym (get_or-set_other bs i i' b [] (n l)))
      | inr l ↦ cond-false _ _ _ (le-ltb j 4096 l) ∙ sym (cond-false _ _ _ (le-ltb j 4096 l))
    ]

-- a place in the row that is written to
hit : (bs : List (List ℕ)) (i i' j k : ℕ) (b : List ℕ) (p : Place) → place_of b ≡ p → i < length bs → k < 4096 → (j ≡ k → i' ≡ i) → (i' ≡ i → j ≡ k) →
    cond (eqb j k) p (cond (ltb j 4096) (place_of (get_or bs i' [])) Blank) ≡ cond (ltb j 4096) (place_of (get_or (set bs i b) i' [])) Blank
hit bs i i' j k b p same l m there back =
    elim (cases_eq j k) [
      | inl e ↦ cond-true _ _ _ (eq-eqb j k e)
          ∙ sym (cond-true _ _ _ (lt-ltb j 4096 (omega arith)) ∙ ap (λ (q : ℕ). place_of (get_or (set bs i b) q [])) (there e) ∙ ap place_of (get_or-set_same bs i b [] l) ∙ same)
      | inr e ↦ cond-false _ _ _ (ne_eqb j k e) ∙ miss bs i i' j b (λ q z. e (back z))
    ]

pub set-place : (bs : List (List ℕ)) (s : Side) (k : ℕ) (b : List ℕ) (p : Place) → place_of b ≡ p → length bs ≡ 8192 → k < 4096 → device_of (set bs (index s k) b) ≡ put s k p (device_of bs)
set-place bs Row0 k b p e l m =
    sym (fun_ext (elim [
      | Row0 ↦ fun_ext (λ j. hit bs k j j k b p e (omega arith) m (λ z. z) (λ z. z))
      | Row1 ↦ fun_ext (λ j. miss bs k (4096 + j) j b (omega arith))
    ]))
set-place bs Row1 k b p e l m =
    sym (fun_ext (elim [
      | Row0 ↦ fun_ext (λ j. miss bs (4096 + k) j j b (omega arith))
      | Row1 ↦ fun_ext (λ j. hit bs (4096 + k) (4096 + j) j k b p e (omega arith) m (omega arith) (omega arith))
    ]))

-- a record's bytes written are a record written
pub device-set : (bs : List (List ℕ)) (s : Side) (k : ℕ) (b : List ℕ) (r : Record) → decoded b ≡ Some r → length bs ≡ 8192 → k < 4096 → device_of (set bs (index s k) b) ≡ put s k (Holds r) (device_of bs)
device-set bs s k b r e l m = set-place bs s k b (Holds r) (ap (λ (o : Option Record). place_from o (zeros b)) e) l m

-- one write more at the end
abbrev pub nth : Side → (place sequence base : ℕ) → Lease → Write
nth s k q b x = record { side = s; place = k; what = record { sequence = q; base = b; lease = x } }

pub numbered-push : (s : Side) (k q b : ℕ) (xs : List Lease) (x : Lease) → numbered s k q b (xs ++ (x ∷ [])) ≡ numbered s k q b xs ++ (nth s (k + length xs) (q + length xs) b x ∷ [])
unfolding numbered
numbered-push s k q b [] x = ap₂ (λ (i j : ℕ). nth s i j b x ∷ []) {x = k} {y = k + 0} {u = q} {v = q + 0} (omega arith) (omega arith)
numbered-push s k q b (y ∷ xs) x =
    ap (λ (ws : List Write). nth s k q b y ∷ ws)
    (numbered-push s (suc k) (suc q) b xs x
    ∙ ap₂ (λ (i j : ℕ). numbered s (suc k) (suc q) b xs ++ (nth s i j b x ∷ [])) {x = suc k + length xs} {y = k + suc (length xs)} {u = suc q + length xs} {v = q + suc (length xs)} (omega arith) (omega arith))

pub stored-push : (ws : List Write) (w : Write) (bs : List (List ℕ)) → stored (ws ++ (w ∷ [])) bs ≡ set (stored ws bs) (index w.side w.place) (encoded w.what)
unfolding stored
stored-push [] w bs = refl
stored-push (v ∷ ws) w bs = stored-push ws w (set bs (index v.side v.place) (encoded v.what))

pub perform-push : (ws : List Write) (w : Write) (d : Device) → perform (ws ++ (w ∷ [])) d ≡ put w.side w.place (Holds w.what) (perform ws d)
unfolding perform
perform-push [] w d = refl
perform-push (v ∷ ws) w d = perform-push ws w (put v.side v.place (Holds v.what) d)
