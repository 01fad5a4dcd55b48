-- What an append to a journal in memory promises through crashes, of the device that it has.
-- Assumes what Crash assumes, and that the server's table is what the device gives (`Ready`).
use Rattle.std.specs.Prelude.{◌≡◌, ℕ, ◌<◌, ◌≤◌, true, List, length, Option, Result, MatchResult}
use Rattle.lease.specs.declared.fault.Fault.{Fault}
use Rattle.journal.specs.declared.state.Written.{Written}
use Rattle.lease.specs.declared.lease.Lease.{Lease}
use Rattle.journal.specs.declared.journal.Journal.{Journal}
use Rattle.journal.specs.Table.{set}
use Rattle.journal.specs.Device.{chosen, is_found}
use Rattle.journal.specs.Append.{Plan, plan, writes}
use Rattle.journal.specs.Crash.{Cut, cut_at, lands}
use Rattle.journal.specs.Laws.{Ready, Sound, Survives}
use Rattle.journal.specs.Image.{table_in}
use Rattle.journal.specs.Memory.{AppendRefused, Appended, cursor_of, places_of}

-- what an append of a server with this clock and table writes
abbrev pub planned : Journal → (clock : ℕ) → List (Option Lease) → Plan
planned j clock xs = plan 4096 (length xs) clock (cursor_of j) (table_in xs)

-- the lease is written by that plan, or it is said why not and nothing changed
abbrev pub Gives : (clock : ℕ) → List (Option Lease) → (before after : Journal) → Lease → Result Written Fault → Type 0
Gives clock xs j k x r = MatchResult r (λ w. Appended j k (planned j clock xs) x w) (λ f. AppendRefused f (length xs) (planned j clock xs) × (k ≡ j))

-- recovery gives the table with the lease, and goes on where the journal does
abbrev pub Stands : (clock : ℕ) → List (Option Lease) → (before after : Journal) → Lease → Type 0
Stands clock xs j k x = (then : ℕ) → clock ≤ then → Ready 4096 (length xs) then (places_of j) (cursor_of j) (table_in xs) →
    Ready 4096 (length xs) then (places_of k) (cursor_of k) (set x (table_in xs)) × (is_found (chosen 4096 (places_of k)) ≡ true)

-- wherever a crash cuts the writes, recovery gives the table before, or with the lease where the last write left its record
abbrev pub Outlives : (clock : ℕ) → List (Option Lease) → (before : Journal) → Lease → Type 0
Outlives clock xs j x = (then i : ℕ) (k : Cut) → length xs < 4096 → clock ≤ then → Ready 4096 (length xs) then (places_of j) (cursor_of j) (table_in xs) →
    Survives 4096 (length xs) then (places_of j) (cut_at i k (writes (planned j clock xs) x) (places_of j)) (table_in xs) (set x (table_in xs)) (lands i k (length (writes (planned j clock xs) x)))

-- a server that reads its device anew can append to it
abbrev pub Rereads : Journal → List (Option Lease) → Type 0
Rereads j xs = Sound 4096 (places_of j) → (then : ℕ) → Ready 4096 (length xs) then (places_of j) (cursor_of j) (table_in xs)
