-- What a client has: the address that it uses, and the request that waits, each or neither; and what its steps make of it.
-- Assumes nothing.
use Rattle.std.specs.Prelude.{ℕ, ◌+◌, cond, Some, None, Ok, Err, Option, Result, ◌==◌, nat_le}
use Rattle.lease.specs.declared.fault.Fault.{Fault}
use Rattle.lease.specs.declared.fault.Fault.TheVariants.{OtherClient, NotWaiting, TooLate}
use Rattle.lease.specs.declared.message.Grant.{Grant}

-- an address in use, while the client's clock shows at most `until`
pub record Use : Type 0 where
  pub address : ℕ
  pub until : ℕ

-- a request that waits for its grant, sent when the client's clock showed `asked`
pub record Wait : Type 0 where
  pub nonce : ℕ
  pub asked : ℕ

pub record Holding : Type 0 where
  pub uses : Option Use
  pub waits : Option Wait

abbrev pub nothing : Holding
nothing = record { uses = None; waits = None }

abbrev pub still_used : (now : ℕ) → Option Use → Option Use
still_used now None = None
still_used now (Some u) = cond (nat_le now u.until) (Some u) None

-- the clock now shows `now`: an address is used no longer than until its end, and what waits goes on waiting
abbrev pub later : (now : ℕ) → Holding → Holding
later now h = record { uses = still_used now h.uses; waits = h.waits }

-- a request is sent, in the place of one that waits
abbrev pub asking : (nonce now : ℕ) → Holding → Holding
asking n now h = record { uses = h.uses; waits = Some (record { nonce = n; asked = now }) }

-- a grant is taken: its address is used for a term from the asking on, in the place of another
abbrev pub taken : (term address asked : ℕ) → Holding
taken term a asked = record { uses = Some (record { address = a; until = asked + term }); waits = None }

-- a grant for this client comes: refused if its request doesn't wait, or was sent more than a term ago
abbrev pub taking_for : (term now : ℕ) → Grant → Option Wait → Result Holding Fault
taking_for term now g None = Err NotWaiting
taking_for term now g (Some q) = cond (g.nonce == q.nonce) (cond (nat_le now (q.asked + term)) (Ok (taken term g.address q.asked)) (Err TooLate)) (Err NotWaiting)

-- a grant comes to the client with the number `own`
abbrev pub taking : (term now own : ℕ) → Grant → Holding → Result Holding Fault
taking term now own g h = cond (g.client == own) (taking_for term now g h.waits) (Err OtherClient)

-- what is there after a step that may be refused: a refusal changes nothing
abbrev pub settled : {A B : Type 0} → A → Result A B → A
settled old (Ok new) = new
settled old (Err f) = old
