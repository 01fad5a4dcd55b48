-- The words by which a number of a line is called where it is asked for.
-- Assumes nothing.
use Rattle.std.specs.Prelude.{ℕ, List, codes}
use Rattle.text.specs.declared.field.Field.{Field}
use Rattle.text.specs.declared.field.Field.TheVariants as f

abbrev pub field_words : Field → List ℕ
field_words f.Addresses = codes "the addresses"
field_words f.Term = codes "the term"
field_words f.Skew = codes "the skew"
field_words f.Client = codes "the client"
field_words f.Nonce = codes "the nonce"
field_words f.Preferred = codes "the preferred address"
field_words f.Address = codes "the address"
field_words f.Clock = codes "the clock"
field_words f.Until = codes "the last tick of use"
field_words f.Fault = codes "the fault"
field_words f.Times = codes "how many ticks"
field_words f.Party = codes "the box"
