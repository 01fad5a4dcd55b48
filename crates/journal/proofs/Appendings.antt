-- What an append left, from what its steps left.
use Rattle.std.proofs.Common.{◌≡◌, ℕ, suc, ◌+◌, ◌^◌, ◌<◌, ◌≤◌, max, true, List, [], ◌∷◌, ◌++◌, length, set, IfOk, Some, Ok, Err, vec_items, Option, Result, sym, refl, ap, ◌∙◌, subst, ap₂, arith, length-append}
use Rattle.std.proofs.lemmas.Bool.{lt-leb}
use Rattle.std.specs.List.{AllByRecursion}
use Rattle.lease.specs.declared.fault.Fault.{Fault}
use Rattle.lease.specs.declared.fault.Fault.TheVariants.{BadSettings}
use Rattle.lease.specs.declared.lease.Lease.{Lease}
use Rattle.journal.specs.declared.journal.Journal.{Journal}
use Rattle.journal.specs.declared.state.Found.{Found}
use Rattle.journal.specs.declared.state.Found.TheVariants as found
use Rattle.journal.specs.declared.state.Written.{Written}
use Rattle.journal.specs.Place.{Holds}
use Rattle.journal.specs.Bytes.{encoded, decoded}
use Rattle.journal.specs.Table.{Table, keeping, set as set_in}
use Rattle.journal.specs.Device.{Side, other, Device, Choice, chosen, is_found, Cursor}
use Rattle.journal.specs.Append.{Plan, in_row, in_other, exhausted, numbered, writes, put, perform}
use Rattle.journal.specs.Image.{index, stored, choice_from, device_of, table_in}
use Rattle.journal.specs.Memory.{cursor_of, choice_of, found_of, places_of, next_record, went, Legible, Copied, Appended, Tried, AppendRefused}
use Rattle.journal.specs.Laws.{Ready}
use Rattle.journal.specs.Promise.{planned, Gives, Stands, Outlives}
use Rattle.journal.specs.Durable.{CutFile}
use Rattle.journal.proofs.Durables.{cut-file}
use Rattle.journal.proofs.Appends.{append_stands, append_survives}
use Rattle.journal.proofs.Progress.{length_numbered}

-- a written journal has its table in the active row
table_in_lem : (j : Journal) (s : Side) → found_of j ≡ found.Table → (cursor_of j).side ≡ s → choice_of j ≡ Choice.Found s
table_in_lem j s f e = ap (λ (g : Found). choice_from g j.reading.side) f ∙ ap Choice.Found e

module _ (before end : Journal) (x : Lease) (w : Written) where
  abbrev c : Cursor
  c = cursor_of before

  pub row_appended : vec_items end.device ≡ set (vec_items before.device) (index c.side c.count) (encoded (next_record c x)) →
      places_of end ≡ put c.side c.count (Holds (next_record c x)) (places_of before) → decoded (encoded (next_record c x)) ≡ Some (next_record c x) → cursor_of end ≡ went c → found_of end ≡ found.Table →
      w.first ≡ index c.side c.count → w.count ≡ 1 → c.first + c.count < 2 ^ 63 → c.count < 4096 → Appended before end (in_row c) x w
  unfolding numbered stored perform
  row_appended b d g e f p n l m =
      let z : c.count ≡ c.count + 0 = omega arith in
      record {
        bytes = b;
        device = d;
        cursor = e ∙ ap (λ (k : ℕ). record { side = c.side; first = c.first; count = suc k; base = c.base; highest = max c.highest (c.first + k) }) z;
        choice = table_in_lem end c.side f (ap (λ (v : Cursor). v.side) e);
        first = p;
        count = n;
        early = lt-leb (2 ^ 63) (c.first + (c.count + 0)) (omega arith);
        legible = (g, tt);
        inside = omega arith;
      }

  module _ (n now : ℕ) (u : Table) (turned : Journal) where
    abbrev begun : Cursor
    begun = record { side = other c.side; first = suc c.highest; count = 0; base = length (keeping now u n); highest = c.highest }

    pub other-appended : vec_items turned.device ≡ vec_items before.device → cursor_of turned ≡ begun →
        Copied (cursor_of turned) (vec_items turned.device) (places_of turned) (keeping now u n ++ (x ∷ [])) (vec_items end.device) (places_of end) (cursor_of end) → found_of end ≡ found.Table →
        w.first ≡ index (other c.side) 0 → w.count ≡ length (keeping now u n) + 1 → suc c.highest + length (keeping now u n) < 2 ^ 63 → length (keeping now u n) < 4096 → Appended before end (in_other n now c u) x w
    other-appended b t y f p m l o =
        let k : length (keeping now u n ++ (x ∷ [])) ≡ length (keeping now u n) + 1 = length-append (keeping now u n) (x ∷ []) in
        let z : Copied begun (vec_items before.device) (places_of before) (keeping now u n ++ (x ∷ [])) (vec_items end.device) (places_of end) (cursor_of end) =
        subst (λ (bs : List (List ℕ)). Copied begun bs (device_of bs) (keeping now u n ++ (x ∷ [])) (vec_items end.device) (places_of end) (cursor_of end)) b
        (subst (λ (v : Cursor). Copied v (vec_items turned.device) (places_of turned) (keeping now u n ++ (x ∷ [])) (vec_items end.device) (places_of end) (cursor_of end)) t y) in
        let q : suc c.highest ≡ suc c.highest + 0 = omega arith in
        record {
          bytes = z.bytes ∙ ap (λ (i : ℕ). stored (numbered (other c.side) 0 i (length (keeping now u n)) (keeping now u n ++ (x ∷ []))) (vec_items before.device)) q;
          device = z.device ∙ ap (λ (i : ℕ). perform (numbered (other c.side) 0 i (length (keeping now u n)) (keeping now u n ++ (x ∷ []))) (places_of before)) q;
          cursor = z.cursor
              ∙ ap₂ (λ (i h : ℕ). record { side = other c.side; first = suc c.highest; count = i; base = length (keeping now u n); highest = h })
              {x = length (keeping now u n ++ (x ∷ []))} {y = suc (0 + length (keeping now u n))} {u = c.highest + length (keeping now u n ++ (x ∷ []))} {v = max c.highest (suc c.highest + (0 + length (keeping now u n)))} (omega arith) (omega arith);
          choice = table_in_lem end (other c.side) f (ap (λ (v : Cursor). v.side) z.cursor);
          first = p;
          count = m ∙ sym (length_numbered (other c.side) 0 (suc c.highest + 0) (length (keeping now u n)) (keeping now u n ++ (x ∷ [])) ∙ k);
          early = lt-leb (2 ^ 63) (suc c.highest + (0 + length (keeping now u n))) (omega arith);
          legible = subst (λ (i : ℕ). AllByRecursion Legible (numbered (other c.side) 0 i (length (keeping now u n)) (keeping now u n ++ (x ∷ [])))) q z.legible;
          inside = omega arith;
        }

-- the laws, of the journal's own device
outlived : (clock : ℕ) (xs : List (Option Lease)) (before : Journal) (x : Lease) → Outlives clock xs before x
outlived clock xs before x then i k room on r = append_survives 4096 (length xs) clock then (places_of before) (cursor_of before) (table_in xs) x i k room on r

stood : (clock : ℕ) (xs : List (Option Lease)) (before end : Journal) (x : Lease) (w : Written) → length xs < 4096 → Appended before end (planned before clock xs) x w → Stands clock xs before end x
stood clock xs before end x w room a then on r =
    subst (λ (d : Device). Ready 4096 (length xs) then d (cursor_of end) (set_in x (table_in xs)) × (is_found (chosen 4096 d) ≡ true)) (sym a.device)
    (subst (λ (v : Cursor). Ready 4096 (length xs) then (perform (writes (planned before clock xs) x) (places_of before)) v (set_in x (table_in xs)) × (is_found (chosen 4096 (perform (writes (planned before clock xs) x) (places_of before))) ≡ true)) (sym a.cursor)
    (append_stands 4096 (length xs) clock then (places_of before) (cursor_of before) (table_in xs) x room on r))

-- the answer of either way, as the plan has it
pub record Answered (clock : ℕ) (xs : List (Option Lease)) (before end : Journal) (x : Lease) (r : Result Written Fault) : Type 0 where
  pub value : Gives clock xs before end x r
  pub stands : IfOk r (λ _. Stands clock xs before end x)
  pub outlives : Outlives clock xs before x
  pub file : IfOk r (λ w. CutFile before end (planned before clock xs) x w)

pub answered : (clock : ℕ) (xs : List (Option Lease)) (before end : Journal) (x : Lease) (r : Result Written Fault) (p : Plan) → length xs < 4096 → planned before clock xs ≡ p →
    Tried before end p x r → Answered clock xs before end x r
answered clock xs before end x (Ok w) p room e h =
    let a : Appended before end (planned before clock xs) x w = subst (λ (q : Plan). Appended before end q x w) (sym e) h in
    record { value = a; stands = stood clock xs before end x w room a; outlives = outlived clock xs before x; file = cut-file before end (planned before clock xs) x w a }
answered clock xs before end x (Err f) p room e h =
    record {
      value = (subst (λ (g : Fault). AppendRefused g (length xs) (planned before clock xs)) (sym h.0) (room, ap exhausted e ∙ h.1), h.2);
      stands = tt;
      outlives = outlived clock xs before x;
      file = tt;
    }

pub too_many : (clock : ℕ) (xs : List (Option Lease)) (before : Journal) (x : Lease) → 4096 ≤ length xs → Answered clock xs before before x (Err BadSettings)
too_many clock xs before x l = record { value = (l, refl); stands = tt; outlives = outlived clock xs before x; file = tt }
