-- Worked cases: a run, and what is seen after it. Term 100, skew 5.
-- Assumes nothing.
use Rattle.std.specs.Prelude.{◌≡◌, ℕ, List, [], ◌∷◌, Some, Ok, Err, Result}
use Rattle.lease.specs.declared.fault.Fault.{Fault}
use Rattle.lease.specs.declared.fault.Fault.TheVariants.{NotWaiting, TooLate, NoneFree}
use Rattle.lease.specs.declared.message.Request.{Request}
use Rattle.lease.specs.declared.message.Grant.{Grant}
use Rattle.lease.specs.Settings.{Settings}
use Rattle.lease.specs.Holding.{Holding, taking, taken}
use Rattle.lease.specs.World.{World}
use Rattle.lease.specs.Run.{Event, Answer, Pass, Asks, ServerHears, ClientHears, ClientStarts, ClientCrashes, answer, world}

-- so many ticks pass for all
abbrev pub ticks : ℕ → Event
ticks k = Pass k (λ c. k)

-- one address
abbrev pub single : Settings
single = record { addresses = 1; term = 100; skew = 5 }

-- what is seen of a world: the end of the lease at address 0 and whose it is; what the client 1 has; what the server answers to a request; what the client 1 makes of a grant
pub data Seen : Type 0 where
  Lent : (client expires : ℕ) → Seen
  Has : Holding → Seen
  Says : Request → Answer → Seen
  Makes : Grant → Result Holding Fault → Seen

abbrev pub Sees : World → Seen → Type 0
Sees w (Lent c e) = w.server.table 0 ≡ Some (record { address = 0; client = c; expires = e })
Sees w (Has h) = (w.clients 1).holding ≡ h
Sees w (Says r x) = answer single w.server r ≡ x
Sees w (Makes g x) = taking single.term (w.clients 1).clock 1 g (w.clients 1).holding ≡ x

pub record Case : Type 0 where
  pub run : List Event
  pub seen : Seen

-- the client 1 asks at its 10, and the server hears it at its 12
abbrev pub heard : List Event
heard = ServerHears 0 ∷ (ticks 2 ∷ (Asks 1 90 1 ∷ (ticks 10 ∷ (ClientStarts 1 0 ∷ []))))

-- its grant, and what it has that takes it
abbrev pub granted : Grant
granted = record { client = 1; nonce = 90; address = 0 }

abbrev pub used : Holding
used = taken 100 0 10

-- another client's request
abbrev pub another : Request
another = record { client = 2; nonce = 70; preferred = 1 }

-- the client 1 asks twice before any grant, and both requests are heard
abbrev pub twice : List Event
twice = ServerHears 1 ∷ (ServerHears 1 ∷ (Asks 1 91 1 ∷ (ticks 2 ∷ (Asks 1 90 1 ∷ (ticks 10 ∷ (ClientStarts 1 0 ∷ []))))))

abbrev pub cases : List Case
cases =
    -- asked at 10 and heard at 12: the lease ends at 117, and it is used until 110
    record { run = heard; seen = Lent 1 117 }
    ∷ (record { run = ClientHears 1 0 ∷ heard; seen = Has used }
    -- the grant comes at the client's 110: used until 110; at 111: too late
    ∷ (record { run = ticks 98 ∷ heard; seen = Makes granted (Ok used) }
    ∷ (record { run = ticks 99 ∷ heard; seen = Makes granted (Err TooLate) }
    -- the request comes again at the server's 60: the same address for the same client, until 165
    ∷ (record { run = ServerHears 1 ∷ (ticks 48 ∷ heard); seen = Lent 1 165 }
    -- another client asks at the server's 117: not free; at 118: free
    ∷ (record { run = ticks 105 ∷ heard; seen = Says another (Err NoneFree) }
    ∷ (record { run = ticks 106 ∷ heard; seen = Says another (Ok (Some (record { client = 2; nonce = 70; address = 0 }))) }
    -- the client crashes at 50 and asks at 51: it is lent the same
    ∷ (record { run = ServerHears 0 ∷ (Asks 1 92 1 ∷ (ticks 1 ∷ (ClientStarts 1 50 ∷ (ClientCrashes 1 ∷ (ticks 38 ∷ (ClientHears 1 0 ∷ heard)))))); seen = Lent 1 156 }
    ∷ (record { run = ClientHears 1 0 ∷ (ServerHears 0 ∷ (Asks 1 92 1 ∷ (ticks 1 ∷ (ClientStarts 1 50 ∷ (ClientCrashes 1 ∷ (ticks 38 ∷ (ClientHears 1 0 ∷ heard))))))); seen = Has (taken 100 0 51) }
    -- asked twice: only the second request's grant is taken, and both have one address
    ∷ (record { run = twice; seen = Makes granted (Err NotWaiting) }
    ∷ (record { run = twice; seen = Makes (record { client = 1; nonce = 91; address = 0 }) (Ok (taken 100 0 12)) }
    ∷ (record { run = ClientHears 1 0 ∷ twice; seen = Has (taken 100 0 12) }
    ∷ (record { run = ClientHears 1 1 ∷ (ClientHears 1 0 ∷ twice); seen = Has (taken 100 0 12) } ∷ []))))))))))))

unfoldable pub AllSeen : List Case → Type 0
AllSeen [] = Unit
AllSeen (c ∷ cs) = Sees (world single c.run) c.seen × AllSeen cs

abbrev pub CasesHold : Type 0
CasesHold = AllSeen cases
