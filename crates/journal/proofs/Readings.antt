-- From two rows that were read to what is recovered.
use Rattle.std.proofs.Common.{◌≡◌, ℕ, ◌<◌, List, [], get_or, take, drop, sym, ap, ◌∙◌, subst, get_or-take, get_or-drop}
use Rattle.std.proofs.lemmas.Bool.{cond-true, lt-ltb}
use Rattle.journal.specs.declared.scan.RowScan.{RowScan}
use Rattle.journal.specs.Bytes.{place_of}
use Rattle.journal.specs.Row.{Row}
use Rattle.journal.specs.Device.{Side, Row0, Row1}
use Rattle.journal.specs.Image.{index, device_of, scanned, Knows}
use Rattle.journal.proofs.Scans.{scanned-same, knows}

-- a row of the device is what a pass over its places reads
row_of : (bs : List (List ℕ)) (s : Side) (row : Row) → ((k : ℕ) → k < 4096 → row k ≡ place_of (get_or bs (index s k) [])) → Knows (device_of bs s) 4096 (scanned row 4096)
row_of bs s row h =
    subst (Knows (device_of bs s) 4096) (sym (scanned-same row (device_of bs s) 4096 (λ k l. h k l ∙ sym (cond-true _ _ _ (lt-ltb k 4096 l))))) (knows (device_of bs s) 4096)

pub row_0 : (bs rs : List (List ℕ)) (s : RowScan) → rs ≡ take 4096 bs → s ≡ scanned (λ k. place_of (get_or rs k [])) 4096 → Knows (device_of bs Row0) 4096 s
row_0 bs rs s t e =
    subst (Knows (device_of bs Row0) 4096) (sym e)
    (row_of bs Row0 (λ k. place_of (get_or rs k [])) (λ k l. ap (λ (xs : List (List ℕ)). place_of (get_or xs k [])) t ∙ ap place_of (get_or-take 4096 bs k [] l)))

pub row_1 : (bs rs : List (List ℕ)) (s : RowScan) → rs ≡ drop 4096 bs → s ≡ scanned (λ k. place_of (get_or rs k [])) 4096 → Knows (device_of bs Row1) 4096 s
row_1 bs rs s t e =
    subst (Knows (device_of bs Row1) 4096) (sym e)
    (row_of bs Row1 (λ k. place_of (get_or rs k [])) (λ k l. ap (λ (xs : List (List ℕ)). place_of (get_or xs k [])) t ∙ ap place_of (get_or-drop 4096 bs k [])))
