-- Leases copied one after the other into a row that was begun.
use Rattle.std.proofs.Common.{◌≡◌, ℕ, suc, ◌+◌, max, List, [], ◌∷◌, ◌++◌, length, set, Some, None, sym, refl, ap, ◌∙◌, subst, ap₂, arith, length-append}
use Rattle.std.proofs.ByRecursion.{All-push}
use Rattle.std.specs.List.{AllByRecursion}
use Rattle.lease.specs.declared.lease.Lease.{Lease}
use Rattle.journal.specs.Place.{Holds}
use Rattle.journal.specs.Bytes.{encoded, decoded}
use Rattle.journal.specs.Table.{Table, added, keeping, kept_of}
use Rattle.journal.specs.Device.{Device, Cursor}
use Rattle.journal.specs.Append.{Write, numbered, put, perform}
use Rattle.journal.specs.Image.{index, stored}
use Rattle.journal.specs.Memory.{next_record, went, Legible, copied_to, Copied}
use Rattle.journal.proofs.Tables.{keeping-more}
use Rattle.journal.proofs.Stores.{numbered-push, stored-push, perform-push}

pub none-copied : (c : Cursor) (bs : List (List ℕ)) (d : Device) → c.count ≡ 0 → Copied c bs d [] bs d c
unfolding numbered stored perform
none-copied c bs d e =
    record { bytes = refl; device = refl; legible = tt; cursor = ap₂ (λ (n h : ℕ). going n h) e (let z : c.highest ≡ c.highest + 0 = omega arith in z) }
  where
    going : ℕ → ℕ → Cursor
    going n h = record { side = c.side; first = c.first; count = n; base = c.base; highest = h }

module _ (c : Cursor) (bs₀ : List (List ℕ)) (d₀ : Device) (above : c.first ≡ suc c.highest) where
  -- the numbers of one write more
  push : (xs : List Lease) (x : Lease) → numbered c.side 0 c.first c.base (xs ++ (x ∷ [])) ≡ numbered c.side 0 c.first c.base xs ++ (record { side = c.side; place = length xs; what = next_record (copied_to c (length xs)) x } ∷ [])
  push xs x =
      numbered-push c.side 0 c.first c.base xs x
      ∙ ap (λ (k : ℕ). numbered c.side 0 c.first c.base xs ++ (record { side = c.side; place = k; what = next_record (copied_to c (length xs)) x } ∷ [])) {x = 0 + length xs} {y = length xs} (omega arith)

  went_on : (xs : List Lease) (x : Lease) → went (copied_to c (length xs)) ≡ copied_to c (length (xs ++ (x ∷ [])))
  went_on xs x =
      let n : length (xs ++ (x ∷ [])) ≡ length xs + 1 = length-append xs (x ∷ []) in
      ap₂ (λ (k h : ℕ). going k h) {x = suc (length xs)} {y = length (xs ++ (x ∷ []))} {u = max (c.highest + length xs) (c.first + length xs)} {v = c.highest + length (xs ++ (x ∷ []))} (omega arith) (omega arith)
    where
      going : ℕ → ℕ → Cursor
      going k h = record { side = c.side; first = c.first; count = k; base = c.base; highest = h }

  pub one-copied : (xs : List Lease) (x : Lease) (bs : List (List ℕ)) (d : Device) (e : Cursor) (bs' : List (List ℕ)) (d' : Device) (e' : Cursor) → Copied c bs₀ d₀ xs bs d e →
      decoded (encoded (next_record e x)) ≡ Some (next_record e x) → bs' ≡ set bs (index e.side e.count) (encoded (next_record e x)) → d' ≡ put e.side e.count (Holds (next_record e x)) d → e' ≡ went e → Copied c bs₀ d₀ (xs ++ (x ∷ [])) bs' d' e'
  one-copied xs x bs d e bs' d' e' w g p q r =
      record {
        bytes = p ∙ ap₂ (λ (b : List (List ℕ)) (v : Cursor). set b (index v.side v.count) (encoded (next_record v x))) w.bytes w.cursor
            ∙ sym (ap (λ (ws : List Write). stored ws bs₀) (push xs x) ∙ stored-push (numbered c.side 0 c.first c.base xs) (record { side = c.side; place = length xs; what = next_record (copied_to c (length xs)) x }) bs₀);
        device = q ∙ ap₂ (λ (b : Device) (v : Cursor). put v.side v.count (Holds (next_record v x)) b) w.device w.cursor
            ∙ sym (ap (λ (ws : List Write). perform ws d₀) (push xs x) ∙ perform-push (numbered c.side 0 c.first c.base xs) (record { side = c.side; place = length xs; what = next_record (copied_to c (length xs)) x }) d₀);
        cursor = r ∙ ap went w.cursor ∙ went_on xs x;
        legible = subst (AllByRecursion Legible) (sym (push xs x))
            (All-push Legible (numbered c.side 0 c.first c.base xs) (record { side = c.side; place = length xs; what = next_record (copied_to c (length xs)) x }) w.legible
            (subst (λ (v : Cursor). decoded (encoded (next_record v x)) ≡ Some (next_record v x)) w.cursor g));
      }

  pub kept-copied : (now : ℕ) (t : Table) (i : ℕ) (x : Lease) (bs : List (List ℕ)) (d : Device) (e : Cursor) (bs' : List (List ℕ)) (d' : Device) (e' : Cursor) → kept_of now (t i) ≡ Some x →
      Copied c bs₀ d₀ (keeping now t i) bs d e → decoded (encoded (next_record e x)) ≡ Some (next_record e x) → bs' ≡ set bs (index e.side e.count) (encoded (next_record e x)) → d' ≡ put e.side e.count (Holds (next_record e x)) d → e' ≡ went e → Copied c bs₀ d₀ (keeping now t (i + 1)) bs' d' e'
  kept-copied now t i x bs d e bs' d' e' k w g p q r =
      subst (λ (xs : List Lease). Copied c bs₀ d₀ xs bs' d' e') (ap (added (keeping now t i)) (sym k) ∙ sym (keeping-more now t i)) (one-copied (keeping now t i) x bs d e bs' d' e' w g p q r)

  pub none-kept : (now : ℕ) (t : Table) (i : ℕ) (bs : List (List ℕ)) (d : Device) (e : Cursor) → kept_of now (t i) ≡ None → Copied c bs₀ d₀ (keeping now t i) bs d e → Copied c bs₀ d₀ (keeping now t (i + 1)) bs d e
  none-kept now t i bs d e k w = subst (λ (xs : List Lease). Copied c bs₀ d₀ xs bs d e) (ap (added (keeping now t i)) (sym k) ∙ sym (keeping-more now t i)) w
