-- The device's file while the places that an append wrote are made durable, each before the next, and a crash cuts one of these writes.
-- Assumes of a write that is cut what `LeftByCut` says; whoever writes the file has to see to the order.
use Rattle.std.specs.Prelude.{◌≡◌, ℕ, zero, suc, ◌+◌, ◌<◌, ◌≤◌, ◌⊎◌, List, [], None, vec_items, slice_index_or, slice_set}
use Rattle.lease.specs.declared.lease.Lease.{Lease}
use Rattle.journal.specs.declared.journal.Journal.{Journal}
use Rattle.journal.specs.declared.state.Written.{Written}
use Rattle.journal.specs.Bytes.{decoded}
use Rattle.journal.specs.Append.{Plan, writes}
use Rattle.journal.specs.Crash.{Cut, Untouched, cut_at}
use Rattle.journal.specs.Image.{device_of}
use Rattle.journal.specs.Memory.{places_of}

-- the file after `j` places from the first on were made what the memory has there
unfoldable pub durable : (first j : ℕ) → (memory file : List (List ℕ)) → List (List ℕ)
durable f zero ms bs = bs
durable f (suc j) ms bs = slice_set (durable f j ms bs) (f + j) (slice_index_or ms (f + j) [])

-- what a write of `new` over `old` leaves when it is cut: one of the two, or bytes that fit no sum
abbrev pub LeftByCut : (old new left : List ℕ) → Type 0
LeftByCut old new left = (left ≡ old) ⊎ ((left ≡ new) ⊎ (decoded left ≡ None))

-- such a file holds a device as the crash laws have it
pub record CutFile (before after : Journal) (p : Plan) (x : Lease) (w : Written) : Type 0 where
  pub between : (j : ℕ) → j ≤ w.count → device_of (durable w.first j (vec_items after.device) (vec_items before.device)) ≡ cut_at j Untouched (writes p x) (places_of before)
  pub within : (j : ℕ) → j < w.count → (left : List ℕ) →
      LeftByCut (slice_index_or (durable w.first j (vec_items after.device) (vec_items before.device)) (w.first + j) []) (slice_index_or (vec_items after.device) (w.first + j) []) left →
      (k : Cut) × (device_of (slice_set (durable w.first j (vec_items after.device) (vec_items before.device)) (w.first + j) left) ≡ cut_at j k (writes p x) (places_of before))
