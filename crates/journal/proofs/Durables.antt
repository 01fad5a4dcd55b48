-- The device's file, made durable place by place and cut, is a device whose writes were cut.
use Rattle.std.proofs.Common.{◌≡◌, ℕ, zero, suc, ◌+◌, ◌<◌, ◌≤◌, Bool, true, false, cond, List, [], ◌∷◌, ◌++◌, length, get_or, take, drop, set, Some, vec_items, Option, sym, refl, ap, ◌∙◌, subst, ap₂, inl, inr, add-one, arith, length-append, length-set, get_or-set_other, get_or-set_same}
use Rattle.std.proofs.lemmas.List.{take_more, take_all, drop_more, take-append-drop, length-take-le, set-get_or}
use Rattle.std.proofs.lemmas.Bool.{cases_lt}
use Rattle.std.specs.List.{AllByRecursion}
use Rattle.lease.specs.declared.lease.Lease.{Lease}
use Rattle.journal.specs.declared.journal.Journal.{Journal}
use Rattle.journal.specs.declared.record.Record.{Record}
use Rattle.journal.specs.declared.state.Written.{Written}
use Rattle.journal.specs.Place.{Place, Blank, Torn, Holds}
use Rattle.journal.specs.Bytes.{encoded, decoded, zeros, place_from, place_of}
use Rattle.journal.specs.Device.{Side, Row0, Row1, Device}
use Rattle.journal.specs.Append.{Plan, Write, numbered, writes, put, perform}
use Rattle.journal.specs.Crash.{Cut, Untouched, Whole, Tears, Zeroes, cut_write, cut_at}
use Rattle.journal.specs.Image.{index, device_of, stored}
use Rattle.journal.specs.Memory.{Legible, Appended}
use Rattle.journal.specs.Durable.{durable, LeftByCut, CutFile}
use Rattle.journal.proofs.Progress.{length_numbered}
use Rattle.journal.proofs.Stores.{nth, set-place, device-set, numbered-push, stored-push}

index_suc : (s : Side) (k : ℕ) → index s (suc k) ≡ suc (index s k)
index_suc Row0 k = refl
index_suc Row1 k = omega arith

index_add : (s : Side) (k j : ℕ) → index s (k + j) ≡ index s k + j
index_add Row0 k j = refl
index_add Row1 k j = omega arith

index_below : (s : Side) (k : ℕ) → k < 4096 → index s k < 8192
index_below Row0 k l = omega arith
index_below Row1 k l = omega arith

-- a cut behind the first writes
cut-split : (front back : List Write) (w : Write) (c : Cut) (d : Device) → cut_at (length front) c (front ++ (w ∷ back)) d ≡ cut_write c w (perform front d)
unfolding cut_at perform
cut-split [] back w c d = refl
cut-split (v ∷ front) back w c d = cut-split front back w c (put v.side v.place (Holds v.what) d)

cut-none : (ws : List Write) (c : Cut) (d : Device) → cut_at (length ws) c ws d ≡ perform ws d
unfolding cut_at perform
cut-none [] c d = refl
cut-none (w ∷ ws) c d = cut-none ws c (put w.side w.place (Holds w.what) d)

module _ (s : Side) (b : ℕ) where
  numbered_append : (k q : ℕ) (xs ys : List Lease) → numbered s k q b (xs ++ ys) ≡ numbered s k q b xs ++ numbered s (k + length xs) (q + length xs) b ys
  unfolding numbered
  numbered_append k q [] ys = ap₂ (λ (i j : ℕ). numbered s i j b ys) {x = k} {y = k + 0} {u = q} {v = q + 0} (omega arith) (omega arith)
  numbered_append k q (x ∷ xs) ys =
      ap (λ (ws : List Write). nth s k q b x ∷ ws)
      (numbered_append (suc k) (suc q) xs ys
      ∙ ap₂ (λ (i j : ℕ). numbered s (suc k) (suc q) b xs ++ numbered s i j b ys) {x = suc k + length xs} {y = k + suc (length xs)} {u = suc q + length xs} {v = q + suc (length xs)} (omega arith) (omega arith))

  length_stored : (k q : ℕ) (xs : List Lease) (bs : List (List ℕ)) → length (stored (numbered s k q b xs) bs) ≡ length bs
  unfolding numbered stored
  length_stored k q [] bs = refl
  length_stored k q (x ∷ xs) bs = length_stored (suc k) (suc q) xs (set bs (index s k) (encoded (record { sequence = q; base = b; lease = x }))) ∙ length-set bs (index s k) (encoded (record { sequence = q; base = b; lease = x }))

  device-stored : (k q : ℕ) (xs : List Lease) (bs : List (List ℕ)) → AllByRecursion Legible (numbered s k q b xs) → k + length xs ≤ 4096 → length bs ≡ 8192 → device_of (stored (numbered s k q b xs) bs) ≡ perform (numbered s k q b xs) (device_of bs)
  unfolding numbered stored perform
  device-stored k q [] bs h l n = refl
  device-stored k q (x ∷ xs) bs h l n =
      let r : Record = record { sequence = q; base = b; lease = x } in
      device-stored (suc k) (suc q) xs (set bs (index s k) (encoded r)) h.1 (omega arith) (length-set bs (index s k) (encoded r) ∙ n)
      ∙ ap (perform (numbered s (suc k) (suc q) b xs)) (device-set bs s k (encoded r) r h.0 n (omega arith))

  -- what stands at the places written, and before them
  stored-below : (k q : ℕ) (xs : List Lease) (bs : List (List ℕ)) (i : ℕ) → i < index s k → get_or (stored (numbered s k q b xs) bs) i [] ≡ get_or bs i []
  unfolding numbered stored
  stored-below k q [] bs i l = refl
  stored-below k q (x ∷ xs) bs i l =
      let r : Record = record { sequence = q; base = b; lease = x } in
      let z : index s (suc k) ≡ suc (index s k) = index_suc s k in
      stored-below (suc k) (suc q) xs (set bs (index s k) (encoded r)) i (omega arith) ∙ get_or-set_other bs (index s k) i (encoded r) [] (omega arith)

  stored_at : (x₀ : Lease) (k q : ℕ) (xs : List Lease) (bs : List (List ℕ)) (j : ℕ) → j < length xs → k + length xs ≤ 4096 → length bs ≡ 8192 →
      get_or (stored (numbered s k q b xs) bs) (index s k + j) [] ≡ encoded (record { sequence = q + j; base = b; lease = get_or xs j x₀ })
  unfolding numbered stored
  stored_at x₀ k q [] bs j l m n = absurd (omega arith)
  stored_at x₀ k q (x ∷ xs) bs zero l m n =
      let r : Record = record { sequence = q; base = b; lease = x } in
      let z : index s (suc k) ≡ suc (index s k) = index_suc s k in
      let y : index s k < 8192 = index_below s k (omega arith) in
      stored-below (suc k) (suc q) xs (set bs (index s k) (encoded r)) (index s k + 0) (omega arith)
      ∙ ap (λ (i : ℕ). get_or (set bs (index s k) (encoded r)) i []) {x = index s k + 0} {y = index s k} (omega arith)
      ∙ get_or-set_same bs (index s k) (encoded r) [] (omega arith)
      ∙ ap (λ (i : ℕ). encoded (record { sequence = i; base = b; lease = x })) {x = q} {y = q + 0} (omega arith)
  stored_at x₀ k q (x ∷ xs) bs (suc j) l m n =
      let r : Record = record { sequence = q; base = b; lease = x } in
      let z : index s (suc k) ≡ suc (index s k) = index_suc s k in
      ap (λ (i : ℕ). get_or (stored (numbered s (suc k) (suc q) b xs) (set bs (index s k) (encoded r))) i []) {x = index s k + suc j} {y = index s (suc k) + j} (omega arith)
      ∙ stored_at x₀ (suc k) (suc q) xs (set bs (index s k) (encoded r)) j (omega arith) (omega arith) (length-set bs (index s k) (encoded r) ∙ n)
      ∙ ap (λ (i : ℕ). encoded (record { sequence = i; base = b; lease = get_or xs j x₀ })) {x = suc q + j} {y = q + suc j} (omega arith)

  legible-at : (x₀ : Lease) (k q : ℕ) (xs : List Lease) (j : ℕ) → j < length xs → AllByRecursion Legible (numbered s k q b xs) →
      decoded (encoded (record { sequence = q + j; base = b; lease = get_or xs j x₀ })) ≡ Some (record { sequence = q + j; base = b; lease = get_or xs j x₀ })
  unfolding numbered
  legible-at x₀ k q [] j l h = absurd (omega arith)
  legible-at x₀ k q (x ∷ xs) zero l h = subst (λ (i : ℕ). decoded (encoded (record { sequence = i; base = b; lease = x })) ≡ Some (record { sequence = i; base = b; lease = x })) {x = q} {y = q + 0} (omega arith) h.0
  legible-at x₀ k q (x ∷ xs) (suc j) l h =
      subst (λ (i : ℕ). decoded (encoded (record { sequence = i; base = b; lease = get_or xs j x₀ })) ≡ Some (record { sequence = i; base = b; lease = get_or xs j x₀ })) {x = suc q + j} {y = q + suc j} (omega arith) (legible-at x₀ (suc k) (suc q) xs j (omega arith) h.1)

  module _ (x₀ : Lease) (k q : ℕ) (xs : List Lease) (bs : List (List ℕ)) (fit : k + length xs ≤ 4096) (size : length bs ≡ 8192) (legible : AllByRecursion Legible (numbered s k q b xs)) where
    abbrev memory : List (List ℕ)
    memory = stored (numbered s k q b xs) bs

    durable-is : (j : ℕ) → j ≤ length xs → durable (index s k) j memory bs ≡ stored (numbered s k q b (take j xs)) bs
    unfolding durable numbered stored
    durable-is zero l = refl
    durable-is (suc j) l =
        let n : length (take j xs) ≡ j = length-take-le j xs (omega arith) in
        let y : Lease = get_or xs j x₀ in
        ap₂ (λ (v : List (List ℕ)) (e : List ℕ). set v (index s k + j) e) (durable-is j (omega arith)) (stored_at x₀ k q xs bs j (omega arith) fit size)
        ∙ sym (ap (λ (ys : List Lease). stored (numbered s k q b ys) bs) (ap (λ (i : ℕ). take i xs) (sym (add-one j)) ∙ take_more xs j x₀ (omega arith))
        ∙ ap (λ (ws : List Write). stored ws bs) (numbered-push s k q b (take j xs) y)
        ∙ stored-push (numbered s k q b (take j xs)) (nth s (k + length (take j xs)) (q + length (take j xs)) b y) bs
        ∙ ap (λ (i : ℕ). set (stored (numbered s k q b (take j xs)) bs) (index s (k + i)) (encoded (record { sequence = q + i; base = b; lease = y }))) n
        ∙ ap (λ (i : ℕ). set (stored (numbered s k q b (take j xs)) bs) i (encoded (record { sequence = q + j; base = b; lease = y }))) (index_add s k j))

    front_legible : (j : ℕ) → AllByRecursion Legible (numbered s k q b (take j xs))
    front_legible j = go (numbered s k q b (take j xs)) (numbered s (k + length (take j xs)) (q + length (take j xs)) b (drop j xs))
        (subst (AllByRecursion Legible) (ap (numbered s k q b) (sym (take-append-drop j xs)) ∙ numbered_append k q (take j xs) (drop j xs)) legible)
      where
        go : (us vs : List Write) → AllByRecursion Legible (us ++ vs) → AllByRecursion Legible us
        go [] vs h = tt
        go (u ∷ us) vs h = (h.0, go us vs h.1)

    front_device : (j : ℕ) → j ≤ length xs → device_of (durable (index s k) j memory bs) ≡ perform (numbered s k q b (take j xs)) (device_of bs)
    front_device j l =
        let n : length (take j xs) ≡ j = length-take-le j xs l in
        ap device_of (durable-is j l) ∙ device-stored k q (take j xs) bs (front_legible j) (omega arith) size

    cut_front : (j : ℕ) (c : Cut) → j < length xs → cut_at j c (numbered s k q b xs) (device_of bs) ≡ cut_write c (nth s (k + j) (q + j) b (get_or xs j x₀)) (perform (numbered s k q b (take j xs)) (device_of bs))
    unfolding numbered
    cut_front j c l =
        let y : Lease = get_or xs j x₀ in
        let n : length (take j xs) ≡ j = length-take-le j xs (omega arith) in
        let ws : List Write = numbered s k q b (take j xs) in
        let m : length ws ≡ j = length_numbered s k q b (take j xs) ∙ n in
        let e : numbered s k q b xs ≡ ws ++ (nth s (k + j) (q + j) b y ∷ numbered s (suc (k + j)) (suc (q + j)) b (drop (j + 1) xs)) =
        ap (numbered s k q b) (sym (take-append-drop j xs) ∙ ap (λ (ys : List Lease). take j xs ++ ys) (drop_more xs j x₀ l))
        ∙ numbered_append k q (take j xs) (y ∷ drop (j + 1) xs)
        ∙ ap (λ (i : ℕ). ws ++ numbered s (k + i) (q + i) b (y ∷ drop (j + 1) xs)) n in
        ap₂ (λ (i : ℕ) (vs : List Write). cut_at i c vs (device_of bs)) (sym m) e ∙ cut-split ws (numbered s (suc (k + j)) (suc (q + j)) b (drop (j + 1) xs)) (nth s (k + j) (q + j) b y) c (device_of bs)

    between : (j : ℕ) → j ≤ length xs → device_of (durable (index s k) j memory bs) ≡ cut_at j Untouched (numbered s k q b xs) (device_of bs)
    between j l =
        elim (cases_lt j (length xs)) [
          | inl m ↦ front_device j l ∙ sym (cut_front j Untouched m)
          | inr m ↦
              let e : j ≡ length xs = omega arith in
              let n : length (numbered s k q b xs) ≡ length xs = length_numbered s k q b xs in
              front_device j l ∙ ap (λ (ys : List Lease). perform (numbered s k q b ys) (device_of bs)) (take_all j xs (omega arith))
              ∙ sym (ap (λ (i : ℕ). cut_at i Untouched (numbered s k q b xs) (device_of bs)) {x = j} {y = length (numbered s k q b xs)} (omega arith) ∙ cut-none (numbered s k q b xs) Untouched (device_of bs))
        ]

    -- one write cut, in each of the ways
    module _ (j : ℕ) (l : j < length xs) where
      abbrev file : List (List ℕ)
      file = durable (index s k) j memory bs

      file-size : length file ≡ 8192
      file-size = ap length (durable-is j (omega arith)) ∙ length_stored k q (take j xs) bs ∙ size

      written : (left : List ℕ) (p : Place) → place_of left ≡ p → device_of (set file (index s k + j) left) ≡ put s (k + j) p (perform (numbered s k q b (take j xs)) (device_of bs))
      written left p e =
          ap (λ (i : ℕ). device_of (set file i left)) (sym (index_add s k j)) ∙ set-place file s (k + j) left p e file-size (omega arith)
          ∙ ap (put s (k + j) p) (front_device j (omega arith))

      unfit : (left : List ℕ) (z : Bool) → place_of left ≡ cond z Blank Torn → (c : Cut) × (device_of (set file (index s k + j) left) ≡ cut_at j c (numbered s k q b xs) (device_of bs))
      unfit left true e = (Zeroes, written left Blank e ∙ sym (cut_front j Zeroes l))
      unfit left false e = (Tears, written left Torn e ∙ sym (cut_front j Tears l))

      within : (left : List ℕ) → LeftByCut (get_or file (index s k + j) []) (get_or memory (index s k + j) []) left → (c : Cut) × (device_of (set file (index s k + j) left) ≡ cut_at j c (numbered s k q b xs) (device_of bs))
      within left (inl e) = (Untouched, ap (λ (v : List ℕ). device_of (set file (index s k + j) v)) e ∙ ap device_of (set-get_or file (index s k + j) []) ∙ between j (omega arith))
      within left (inr (inl e)) =
          let r : Record = record { sequence = q + j; base = b; lease = get_or xs j x₀ } in
          let new : left ≡ encoded r = e ∙ stored_at x₀ k q xs bs j l fit size in
          (Whole, written left (Holds r) (ap place_of new ∙ ap (λ (o : Option Record). place_from o (zeros (encoded r))) (legible-at x₀ k q xs j l legible)) ∙ sym (cut_front j Whole l))
      within left (inr (inr e)) = unfit left (zeros left) (ap (λ (o : Option Record). place_from o (zeros left)) e)

-- an append's file
module _ (before end : Journal) (p : Plan) (x : Lease) (w : Written) (a : Appended before end p x w) where
  abbrev all : List Lease
  all = p.copied ++ (x ∷ [])

  abbrev old : List (List ℕ)
  old = vec_items before.device

  abbrev Between : (first : ℕ) → List (List ℕ) → Type 0
  Between f ms = (j : ℕ) → j ≤ w.count → device_of (durable f j ms old) ≡ cut_at j Untouched (writes p x) (device_of old)

  abbrev Within : (first : ℕ) → List (List ℕ) → Type 0
  Within f ms = (j : ℕ) → j < w.count → (left : List ℕ) → LeftByCut (get_or (durable f j ms old) (f + j) []) (get_or ms (f + j) []) left →
      (k : Cut) × (device_of (set (durable f j ms old) (f + j) left) ≡ cut_at j k (writes p x) (device_of old))

  size : length old ≡ 8192
  size = sym before.device.ok.0 ∙ before.sized

  several : length all ≡ length p.copied + 1
  several = length-append p.copied (x ∷ [])

  counts : w.count ≡ length all
  counts = a.count ∙ length_numbered p.side p.place (p.first + p.place) p.base all

  moved : (P : ℕ → List (List ℕ) → Type 0) → P (index p.side p.place) (stored (writes p x) old) → P w.first (vec_items end.device)
  moved P h = subst (λ (f : ℕ). P f (vec_items end.device)) (sym a.first) (subst (P (index p.side p.place)) (sym a.bytes) h)

  pub cut-file : CutFile before end p x w
  cut-file =
      record {
        between = moved Between (λ j l. between p.side p.base x p.place (p.first + p.place) all old (omega (arith, several, a.inside)) size a.legible j (omega (arith, counts)));
        within = moved Within (λ j l. within p.side p.base x p.place (p.first + p.place) all old (omega (arith, several, a.inside)) size a.legible j (omega (arith, counts)));
      }
