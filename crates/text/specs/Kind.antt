-- The messages that lines name: each kind's word and the numbers behind it.
-- Assumes nothing.
use Rattle.std.specs.Prelude.{ℕ, List, [], ◌∷◌, codes}
use Rattle.text.specs.declared.field.Field.{Field}
use Rattle.text.specs.declared.field.Field.TheVariants as f
use Rattle.text.specs.declared.kind.Kind.{Kind}
use Rattle.text.specs.declared.kind.Kind.TheVariants.{Settings, Number, Nonce, Request, Grant, Crash, Restart, InUse, NoAddress, Fault}

abbrev pub name : Kind → List ℕ
name Settings = codes "settings"
name Number = codes "number"
name Nonce = codes "nonce"
name Request = codes "request"
name Grant = codes "grant"
name Crash = codes "crash"
name Restart = codes "restart"
name InUse = codes "in-use"
name NoAddress = codes "none"
name Fault = codes "fault"

abbrev pub kinds : List Kind
kinds = Settings ∷ Number ∷ Nonce ∷ Request ∷ Grant ∷ Crash ∷ Restart ∷ InUse ∷ NoAddress ∷ Fault ∷ []

-- the numbers of a message, in their order
abbrev pub fields : Kind → List Field
fields Settings = f.Addresses ∷ f.Term ∷ f.Skew ∷ []
fields Number = f.Client ∷ []
fields Nonce = f.Nonce ∷ []
fields Request = f.Client ∷ f.Nonce ∷ f.Preferred ∷ []
fields Grant = f.Client ∷ f.Nonce ∷ f.Address ∷ []
fields Crash = []
fields Restart = f.Clock ∷ []
fields InUse = f.Address ∷ f.Until ∷ []
fields NoAddress = []
fields Fault = f.Fault ∷ []
