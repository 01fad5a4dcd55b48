-- Whole runs of a client alone, from a new client on.
-- Assumes nothing: any byte strings. A run's list begins with the byte string that was heard last.
use Rattle.std.specs.Prelude.{ℕ, List, [], ◌∷◌, ◌++◌}
use Rattle.wire.specs.declared.message.Message.{Message}
use Rattle.client.specs.Client.{Client, fresh, hears}

abbrev pub Run : Type 0
Run = List (List ℕ)

-- the client after it heard these
unfoldable pub client : Run → Client
client [] = fresh
client (b ∷ bs) = (hears b (client bs)).client

-- all that it has put out by then, the oldest first
unfoldable pub said : Run → List Message
said [] = []
said (b ∷ bs) = said bs ++ (hears b (client bs)).says
