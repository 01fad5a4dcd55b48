-- A table filled from the records of a row, one after the other.
use Rattle.std.proofs.Common.{◌≡◌, ℕ, ◌+◌, ◌-◌, ◌<◌, ◌≤◌, Bool, true, false, cond, eqb, List, [], length, get_or, take, drop, Some, None, Option, sym, refl, ap, ◌∙◌, inl, inr, add-one, arith}
use Rattle.std.specs.List.{between}
use Rattle.std.proofs.lemmas.Bool.{cond-true, lt-ltb, cases_lt}
use Rattle.std.proofs.lemmas.List.Edits.{length-between}
use Rattle.std.proofs.lemmas.List.{get_or_past, get_or-take, get_or-drop}
use Rattle.lease.specs.declared.lease.Lease.{Lease}
use Rattle.journal.specs.declared.record.Record.{Record}
use Rattle.journal.specs.declared.state.Reading.{Reading}
use Rattle.journal.specs.declared.state.Found.{Found}
use Rattle.journal.specs.declared.state.Found.TheVariants as found
use Rattle.journal.specs.Place.{Place, Holds}
use Rattle.journal.specs.Bytes.{place_from, place_of}
use Rattle.journal.specs.Table.{Table, set, kept_of}
use Rattle.journal.specs.Row.{Row, reads, put_in, table_of}
use Rattle.journal.specs.Device.{Side, Row0, Row1, Device, Choice, chosen, Cursor, cursor_at, cursor, leases_at, leases}
use Rattle.journal.specs.Image.{table_in, index, choice_from, device_of, Recovered, count_of}
use Rattle.journal.specs.Laws.{Ready, Sound}
use Rattle.journal.proofs.Tables.{none-some}
use Rattle.journal.proofs.Runs.{filed-at, none-at}
use Rattle.journal.proofs.Reading.{table_same, reads_le}

-- one place more, with a record or without
pub restored_some : (row : Row) (k : ℕ) (t v : List (Option Lease)) (r : Record) → length v ≡ length t → row k ≡ Holds r →
    ((a : ℕ) → a < length t → get_or t a None ≡ table_of row k a) → ((a : ℕ) → a < length v → get_or v a None ≡ set r.lease (table_in t) a) →
    (a : ℕ) → a < length v → get_or v a None ≡ table_of row (k + 1) a
unfolding table_of
restored_some row k t v r s e h p a l =
    p a l ∙ ap (cond (eqb a r.lease.address) (Some r.lease)) (h a (omega arith)) ∙ ap (λ (q : Place). put_in q (table_of row k) a) (sym e)
    ∙ sym (ap (λ (i : ℕ). table_of row i a) (add-one k))

put-none : (z : Bool) (t : Table) (a : ℕ) → t a ≡ put_in (place_from None z) t a
put-none true t a = refl
put-none false t a = refl

pub restored_none : (row : Row) (k : ℕ) (t : List (Option Lease)) (z : Bool) → row k ≡ place_from None z →
    ((a : ℕ) → a < length t → get_or t a None ≡ table_of row k a) → (a : ℕ) → a < length t → get_or t a None ≡ table_of row (k + 1) a
unfolding table_of
restored_none row k t z e h a l =
    h a l ∙ put-none z (table_of row k) a ∙ ap (λ (q : Place). put_in q (table_of row k) a) (sym e) ∙ sym (ap (λ (i : ℕ). table_of row i a) (add-one k))

-- the records that are read make the table that is recovered
count-few : (d : Device) (r : Reading) → Recovered d r → count_of r.found r.row.count ≤ 4096
count-few d r h = by_kind r.found r.side h.choice
  where
    by_kind : (f : Found) (s : Side) → choice_from f s ≡ chosen 4096 d → count_of f r.row.count ≤ 4096
    by_kind found.New s c = omega arith
    by_kind found.Lost s c = omega arith
    by_kind found.Table s c =
        let e : r.row.count ≡ reads (d s) 4096 = ap (λ (v : Cursor). v.count) (h.cursor ∙ ap (cursor_at 4096 d) (sym c)) in
        let z : reads (d s) 4096 ≤ 4096 = reads_le (d s) 4096 in omega arith

-- the records that make the table stand on the device
pub within_row : (d : Device) (r : Reading) (i n : ℕ) → Recovered d r → i ≡ index r.side 0 → n ≡ count_of r.found r.row.count → i + n ≤ 8192
within_row d r i n h e q = by_side r.side e
  where
    by_side : (s : Side) → i ≡ index s 0 → i + n ≤ 8192
    by_side Row0 z = let few : count_of r.found r.row.count ≤ 4096 = count-few d r h in omega arith
    by_side Row1 z = let few : count_of r.found r.row.count ≤ 4096 = count-few d r h in omega arith

-- the places of a row, cut out of the device
row-places : (bs rs : List (List ℕ)) (s : Side) (i n k : ℕ) → i ≡ index s 0 → n ≤ 4096 → k < n → rs ≡ between i (i + n) bs → place_of (get_or rs k []) ≡ device_of bs s k
row-places bs rs s i n k e l m q =
    ap (λ (xs : List (List ℕ)). place_of (get_or xs k [])) q ∙ ap place_of (at_place (i + n - i) (omega arith)) ∙ by_side s e
  where
    at_place : (w : ℕ) → k < w → get_or (take w (drop i bs)) k [] ≡ get_or bs (i + k) []
    at_place w h = get_or-take w (drop i bs) k [] h ∙ get_or-drop i bs k []

    by_side : (v : Side) → i ≡ index v 0 → place_of (get_or bs (i + k) []) ≡ device_of bs v k
    by_side Row0 z = ap (λ (j : ℕ). place_of (get_or bs j [])) {x = i + k} {y = k} (omega arith) ∙ sym (cond-true _ _ _ (lt-ltb k 4096 (omega arith)))
    by_side Row1 z = ap (λ (j : ℕ). place_of (get_or bs j [])) {x = i + k} {y = 4096 + k} (omega arith) ∙ sym (cond-true _ _ _ (lt-ltb k 4096 (omega arith)))

pub restored : (bs rs : List (List ℕ)) (r : Reading) (i n : ℕ) → Recovered (device_of bs) r → i ≡ index r.side 0 → n ≡ count_of r.found r.row.count → rs ≡ between i (i + n) bs → length bs ≡ 8192 → (a : ℕ) →
    table_of (λ k. place_of (get_or rs k [])) (length rs) a ≡ leases 4096 (device_of bs) a
unfolding table_of
restored bs rs r i n h e q z size a =
    let few : n ≤ 4096 = let m : count_of r.found r.row.count ≤ 4096 = count-few (device_of bs) r h in omega arith in
    let within : i + n ≤ 8192 = within_row (device_of bs) r i n h e q in
    let long : length rs ≡ n = ap length z ∙ length-between bs i (i + n) (omega arith) ∙ (let y : i + n - i ≡ n = omega arith in y) in
    ap (λ (m : ℕ). table_of (λ k. place_of (get_or rs k [])) m a) long
    ∙ table_same (λ k. place_of (get_or rs k [])) (device_of bs r.side) n (λ k l. row-places bs rs r.side i n k e few l z) a
    ∙ ap (λ (m : ℕ). table_of (device_of bs r.side) m a) q ∙ by_kind r.found r.side h.choice
  where
    by_kind : (f : Found) (s : Side) → choice_from f s ≡ chosen 4096 (device_of bs) → table_of (device_of bs s) (count_of f r.row.count) a ≡ leases 4096 (device_of bs) a
    by_kind found.New s c = ap (λ (v : Choice). leases_at 4096 (device_of bs) v a) c
    by_kind found.Lost s c = ap (λ (v : Choice). leases_at 4096 (device_of bs) v a) c
    by_kind found.Table s c =
        ap (λ (m : ℕ). table_of (device_of bs s) m a) (ap (λ (v : Cursor). v.count) (h.cursor ∙ ap (cursor_at 4096 (device_of bs)) (sym c)))
        ∙ ap (λ (v : Choice). leases_at 4096 (device_of bs) v a) c

-- a server that has read its device into a table can go on from it
pub rereads : (d : Device) (c : Cursor) (xs : List (Option Lease)) → c ≡ cursor 4096 d → ((a : ℕ) → a < length xs → get_or xs a None ≡ leases 4096 d a) →
    Sound 4096 d → (then : ℕ) → Ready 4096 (length xs) then d c (table_in xs)
rereads d c xs e h sound then =
    record {
      sound = sound;
      same = e;
      agrees = λ a l. ap (kept_of then) (sym (h a l));
      filed = λ a l q. elim (cases_lt a (length xs)) [
        | inl m ↦ filed-at 4096 d (chosen 4096 d) a l (sym (h a m) ∙ q)
        | inr m ↦ absurd (none-some l (sym (get_or_past xs a None m) ∙ q))
      ];
      none = λ q a. elim (cases_lt a (length xs)) [
        | inl m ↦ h a m ∙ none-at 4096 d (chosen 4096 d) q a
        | inr m ↦ get_or_past xs a None m
      ];
    }
