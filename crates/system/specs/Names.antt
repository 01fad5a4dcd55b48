-- What a report calls the parties and the premises.
-- Assumes nothing.
use Rattle.std.specs.Prelude.{ℕ, List, ◌++◌, codes, decimal}
use Rattle.system.specs.declared.line.Party.{Party}
use Rattle.system.specs.declared.line.Party.TheVariants.{Server, Client}
use Rattle.system.specs.declared.line.Premise.{Premise}
use Rattle.system.specs.declared.line.Premise.TheVariants.{Clocks, Message, Nonce, Number, Settings, Count}

abbrev pub party_name : Party → List ℕ
party_name Server = codes "house"
party_name (Client place) = codes "box " ++ decimal place

abbrev pub premise_name : Premise → List ℕ
premise_name Clocks = codes "clocks"
premise_name Message = codes "message"
premise_name Nonce = codes "nonce"
premise_name Number = codes "number"
premise_name Settings = codes "settings"
premise_name Count = codes "count"
