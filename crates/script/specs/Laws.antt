-- That a script can be read in one way.
-- Assumes nothing.
use Rattle.std.specs.Prelude.{◌≡◌, ℕ, List}
use Rattle.script.specs.Script.{Part, Reads, Stuck, written}

abbrev pub OneReading : Type 0
OneReading = (ps qs : List Part) → written ps ≡ written qs → ps ≡ qs

abbrev pub NeverBoth : Type 0
NeverBoth = (bytes : List ℕ) (parts : List Part) (n : ℕ) → Reads bytes parts → Stuck bytes n → ⊥

abbrev pub OneFault : Type 0
OneFault = (bytes : List ℕ) (m n : ℕ) → Stuck bytes m → Stuck bytes n → m ≡ n
