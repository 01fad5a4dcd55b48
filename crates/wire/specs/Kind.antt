-- The table of messages: for each kind its number, which is a message's first byte, how many bytes the message has, and who reads it.
-- Assumes nothing.
use Rattle.std.specs.Prelude.{ℕ, Bool, true, false, List, [], ◌∷◌, Option, ◌==◌}
use Rattle.std.specs.List.{find}
use Rattle.wire.specs.declared.kind.Kind.{Kind}
use Rattle.wire.specs.declared.kind.Kind.TheVariants.{Request, Grant, Settings, Tick, Crash, Restart, OwnNumber, Nonce, InUse, NoAddress, Fault}

-- tool: whoever reads what servers and clients put out
pub record Row : Type 0 where
  pub number : ℕ
  pub size : ℕ
  pub server : Bool
  pub client : Bool
  pub tool : Bool

abbrev row : (number size : ℕ) (server client tool : Bool) → Row
row n l s c t = record { number = n; size = l; server = s; client = c; tool = t }

abbrev pub table : Kind → Row
table Request = row 1 15 true false true
table Grant = row 2 15 false true true
table Settings = row 3 9 true true false
table Tick = row 4 1 true true false
table Crash = row 5 1 true true false
table Restart = row 6 9 true true false
table OwnNumber = row 7 5 false true false
table Nonce = row 8 9 false true false
table InUse = row 16 11 false false true
table NoAddress = row 17 1 false false true
table Fault = row 18 2 false false true

abbrev pub kinds : List Kind
kinds = Request ∷ Grant ∷ Settings ∷ Tick ∷ Crash ∷ Restart ∷ OwnNumber ∷ Nonce ∷ InUse ∷ NoAddress ∷ Fault ∷ []

-- the kind that has a number, if any has
abbrev pub kind_of : ℕ → Option Kind
kind_of n = find (λ k. n == (table k).number) kinds
