-- The numbers that lines have, and from where to where each may go.
-- Assumes nothing.
use Rattle.std.specs.Prelude.{ℕ}
use Rattle.text.specs.declared.field.Field.{Field}
use Rattle.text.specs.declared.field.Field.TheVariants.{Addresses, Term, Skew, Client, Nonce, Preferred, Address, Clock, Until, Fault, Times, Party}

pub record Range : Type 0 where
  pub least : ℕ
  pub most : ℕ

abbrev from_to : ℕ → ℕ → Range
from_to low high = record { least = low; most = high }

-- what fits in two, four and eight bytes
abbrev short : Range
short = from_to 0 65535

abbrev middle : Range
middle = from_to 0 4294967295

abbrev long : Range
long = from_to 0 18446744073709551615

abbrev pub range : Field → Range
range Addresses = short
range Term = middle
range Skew = short
range Client = middle
range Nonce = long
range Preferred = short
range Address = short
range Clock = long
range Until = long
range Fault = from_to 1 9
range Times = from_to 1 1000000
range Party = from_to 1 64
