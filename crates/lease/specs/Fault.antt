-- The number that stands for each fault in a message, and the fault that a number stands for.
-- Assumes nothing.
use Rattle.std.specs.Prelude.{◌≡◌, ℕ, cond, List, [], ◌∷◌, Some, None, Option, Result, ◌==◌}
use Rattle.std.specs.Option.{ok_or}
use Rattle.lease.specs.declared.fault.Fault.{Fault}
use Rattle.lease.specs.declared.fault.Fault.TheVariants.{Malformed, BadAddress, OtherClient, NotWaiting, TooLate, NoneFree, BadSettings, TableLost, CountExhausted}

abbrev pub number : Fault → ℕ
number Malformed = 1
number BadAddress = 2
number OtherClient = 3
number NotWaiting = 4
number TooLate = 5
number NoneFree = 6
number BadSettings = 7
number TableLost = 8
number CountExhausted = 9

abbrev pub faults : List Fault
faults = Malformed ∷ BadAddress ∷ OtherClient ∷ NotWaiting ∷ TooLate ∷ NoneFree ∷ BadSettings ∷ TableLost ∷ CountExhausted ∷ []

abbrev pub numbered : ℕ → List Fault → Option Fault
numbered n [] = None
numbered n (f ∷ fs) = cond (n == number f) (Some f) (numbered n fs)

-- the fault that a number stands for, if it does for any
abbrev pub fault_of : ℕ → Option Fault
fault_of n = numbered n faults

-- the result is that fault, or that the number is malformed
abbrev pub Decodes : ℕ → Result Fault Fault → Type 0
Decodes n r = r ≡ ok_or (fault_of n) Malformed
