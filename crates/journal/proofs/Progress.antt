-- What a row and its table are when so many of the writes to it are done.
use Rattle.std.proofs.Common.{◌≡◌, ℕ, zero, suc, ◌+◌, min, false, ◌⊎◌, List, [], ◌∷◌, length, take, sym, refl, ap, ◌∙◌, subst, inl, inr, arith}
use Rattle.lease.specs.declared.lease.Lease.{Lease}
use Rattle.journal.specs.Place.{Place, Blank, Torn, Holds, height}
use Rattle.journal.specs.Table.{set}
use Rattle.journal.specs.Row.{Row, numbers, table_of}
use Rattle.journal.specs.Device.{Side, Row0, Row1, other, Device}
use Rattle.journal.specs.Append.{at, put, numbered, perform}
use Rattle.journal.specs.Crash.{Cut, Untouched, Whole, Tears, Zeroes, cut_at, done}
use Rattle.journal.specs.Laws.{Begun}
use Rattle.journal.proofs.Reading.{at_same, begun_more, begun_harmed, table_kept, table_more}
use Rattle.journal.proofs.Tables.{laid, laid_same}

pub put-here : (s : Side) (k : ℕ) (p : Place) (d : Device) → put s k p d s ≡ at k p (d s)
put-here Row0 k p d = refl
put-here Row1 k p d = refl

pub put_rest : (s : Side) (k : ℕ) (p : Place) (d : Device) → put s k p d (other s) ≡ d (other s)
put_rest Row0 k p d = refl
put_rest Row1 k p d = refl

pub length_numbered : (s : Side) (k q b : ℕ) (xs : List Lease) → length (numbered s k q b xs) ≡ length xs
unfolding numbered
length_numbered s k q b [] = refl
length_numbered s k q b (x ∷ xs) = ap suc (length_numbered s (suc k) (suc q) b xs)

done_suc : (i : ℕ) (c : Cut) → done (suc i) c ≡ suc (done i c)
done_suc i Untouched = refl
done_suc i Whole = refl
done_suc i Tears = refl
done_suc i Zeroes = refl

-- of the leases `xs`, the first `j` are written to `d`'s side `s` from place `k` on, which gave `e`
pub record Progress (R : ℕ) (d e : Device) (s : Side) (k f b : ℕ) (xs : List Lease) (j : ℕ) : Type 0 where
  pub begun : Begun R (e s) (k + j) f b
  pub table : (a : ℕ) → table_of (e s) (k + j) a ≡ laid (take j xs) (table_of (d s) k) a
  pub rest : e (other s) ≡ d (other s)
  pub none : j ≡ 0 → (e ≡ d) ⊎ ((q : ℕ) → numbers q (e s k) ≡ false)

module _ (R : ℕ) (s : Side) (f b : ℕ) where
  still : (d : Device) (k : ℕ) (xs : List Lease) → Begun R (d s) k f b → Progress R d d s k f b xs 0
  still d k xs g =
      record {
        begun = subst (λ (m : ℕ). Begun R (d s) m f b) {x = k} {y = k + 0} (omega arith) g;
        table = λ a. ap (λ (m : ℕ). table_of (d s) m a) {x = k + 0} {y = k} (omega arith);
        rest = refl;
        none = λ z. inl refl;
      }

  harmed : (d : Device) (k : ℕ) (xs : List Lease) (p : Place) → height p ≡ 0 → ((q : ℕ) → numbers q p ≡ false) → Begun R (d s) k f b → Progress R d (put s k p d) s k f b xs 0
  harmed d k xs p z h g =
      record {
        begun = subst (λ (m : ℕ). Begun R (put s k p d s) m f b) {x = k} {y = k + 0} (omega arith)
            (subst (λ (row : Row). Begun R row k f b) (sym (put-here s k p d)) (begun_harmed R (d s) k f b g p z));
        table = λ a. ap (λ (m : ℕ). table_of (put s k p d s) m a) {x = k + 0} {y = k} (omega arith)
            ∙ ap (λ (row : Row). table_of row k a) (put-here s k p d) ∙ table_kept (d s) k p a;
        rest = put_rest s k p d;
        none = λ z. inr (λ q. ap (numbers q) (ap (λ (row : Row). row k) (put-here s k p d) ∙ at_same k p (d s)) ∙ h q);
      }

  module _ (d : Device) (k q : ℕ) (x : Lease) (xs : List Lease) (same : q ≡ f + k) where
    abbrev wrote : Device
    wrote = put s k (Holds (record { sequence = q; base = b; lease = x })) d

    wrote-begun : Begun R (d s) k f b → Begun R (wrote s) (suc k) f b
    wrote-begun g = subst (λ (row : Row). Begun R row (suc k) f b) (sym (put-here s k _ d)) (begun_more R (d s) k f b g _ same refl)

    wrote-table : (a : ℕ) → table_of (wrote s) (suc k) a ≡ set x (table_of (d s) k) a
    wrote-table a = ap (λ (row : Row). table_of row (suc k) a) (put-here s k _ d) ∙ table_more (d s) k _ a

    one_more : (e : Device) (j i : ℕ) → i ≡ suc j → Progress R wrote e s (suc k) f b xs j → Progress R d e s k f b (x ∷ xs) i
    one_more e j i z p =
        subst (Progress R d e s k f b (x ∷ xs)) {x = suc j} {y = i} (sym z)
        (record {
          begun = subst (λ (m : ℕ). Begun R (e s) m f b) {x = suc k + j} {y = k + suc j} (omega arith) p.begun;
          table = λ a. ap (λ (m : ℕ). table_of (e s) m a) {x = k + suc j} {y = suc k + j} (omega arith) ∙ p.table a ∙ laid_same (take j xs) _ _ wrote-table a;
          rest = p.rest ∙ put_rest s k _ d;
          none = λ z. absurd (omega arith);
        })

  pub performed : (d : Device) (k q : ℕ) (xs : List Lease) → q ≡ f + k → Begun R (d s) k f b → Progress R d (perform (numbered s k q b xs) d) s k f b xs (length xs)
  unfolding numbered perform
  performed d k q [] e g = still d k [] g
  performed d k q (x ∷ xs) e g = one_more d k q x xs e _ (length xs) _ refl (performed (wrote d k q x xs e) (suc k) (suc q) xs (omega arith) (wrote-begun d k q x xs e g))

  -- how far a cut list of writes came
  pub cut : (d : Device) (k q : ℕ) (xs : List Lease) (i : ℕ) (c : Cut) → q ≡ f + k → Begun R (d s) k f b →
      Progress R d (cut_at i c (numbered s k q b xs) d) s k f b xs (min (done i c) (length xs))
  unfolding numbered cut_at
  cut d k q [] i c e g = subst (Progress R d d s k f b []) {x = 0} {y = min (done i c) 0} (omega arith) (still d k [] g)
  cut d k q (x ∷ xs) zero Untouched e g = subst (Progress R d d s k f b (x ∷ xs)) {x = 0} {y = min 0 (suc (length xs))} (omega arith) (still d k (x ∷ xs) g)
  cut d k q (x ∷ xs) zero Whole e g = one_more d k q x xs e _ 0 _ (omega arith) (still (wrote d k q x xs e) (suc k) xs (wrote-begun d k q x xs e g))
  cut d k q (x ∷ xs) zero Tears e g = subst (Progress R d (put s k Torn d) s k f b (x ∷ xs)) {x = 0} {y = min 0 (suc (length xs))} (omega arith) (harmed d k (x ∷ xs) Torn refl (λ q. refl) g)
  cut d k q (x ∷ xs) zero Zeroes e g = subst (Progress R d (put s k Blank d) s k f b (x ∷ xs)) {x = 0} {y = min 0 (suc (length xs))} (omega arith) (harmed d k (x ∷ xs) Blank refl (λ q. refl) g)
  cut d k q (x ∷ xs) (suc i) c e g =
      one_more d k q x xs e _ (min (done i c) (length xs)) _ (let z : done (suc i) c ≡ suc (done i c) = done_suc i c in omega arith)
      (cut (wrote d k q x xs e) (suc k) (suc q) xs i c (omega arith) (wrote-begun d k q x xs e g))
