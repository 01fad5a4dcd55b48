-- Which nonces a client's requests carry: those that were lent to it, each once, in their order.
-- Assumes nothing.
use Rattle.std.specs.Prelude.{◌≡◌, ℕ, false, List, [], ◌∷◌, ◌++◌}
use Rattle.lease.specs.World.{elem}
use Rattle.lease.specs.declared.message.Request as lent
use Rattle.wire.specs.declared.message.Message.{Message}
use Rattle.wire.specs.declared.message.Message.TheVariants.{Request, Grant, Settings, Tick, Crash, Restart, OwnNumber, Nonce, InUse, NoAddress, Fault}
use Rattle.client.specs.Client.{lent}
use Rattle.client.specs.Run.{Run, client, said}

abbrev pub request : Message → List lent.Request
request (Request r) = r ∷ []
request (Grant g) = []
request (Settings n t k) = []
request Tick = []
request Crash = []
request (Restart clock) = []
request (OwnNumber n) = []
request (Nonce n) = []
request (InUse a u) = []
request NoAddress = []
request (Fault f) = []

-- the requests among these messages
unfoldable pub requests : List Message → List lent.Request
requests [] = []
requests (m ∷ ms) = request m ++ requests ms

unfoldable pub nonces : List lent.Request → List ℕ
nonces [] = []
nonces (r ∷ rs) = r.nonce ∷ nonces rs

-- all nonces that were lent, the oldest first
unfoldable pub came : Run → List ℕ
came [] = []
came (b ∷ bs) = came bs ++ lent b

-- Those that came are those of its requests, in order, and then those that it has not used yet.
abbrev pub InOrder : Type 0
InOrder = (bs : Run) → came bs ≡ nonces (requests (said bs)) ++ (client bs).nonces

unfoldable pub Distinct : List ℕ → Type 0
Distinct [] = Unit
Distinct (n ∷ ns) = (elem n ns ≡ false) × Distinct ns

-- So where no nonce is lent twice, none is used twice.
abbrev pub UsedOnce : Type 0
UsedOnce = (bs : Run) → Distinct (came bs) → Distinct (nonces (requests (said bs)))
