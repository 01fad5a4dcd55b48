-- What the values of the code stand for.
-- Assumes nothing.
use Rattle.std.specs.Prelude.{ℕ, List, [], ◌∷◌, ◌++◌, drop, Some, None, Option}
use Rattle.std.specs.VecDeque.{deque_items}
use Rattle.std.specs.Option.{option_map}
use Rattle.lease.specs.declared.message.Request as lent
use Rattle.lease.specs.declared.holding.Use.{Use}
use Rattle.lease.specs.Of.{settings_of, use_of}
use Rattle.lease.specs.Stands as lending
use Rattle.wire.specs.declared.message.Message.{Message}
use Rattle.wire.specs.declared.message.Message.TheVariants.{Request, InUse}
use Rattle.client.specs.declared.state.State.{State}
use Rattle.client.specs.declared.state.Turn.{Turn}
use Rattle.client.specs.declared.asking.Step.{Step}
use Rattle.client.specs.declared.client.Client.{Client}
use Rattle.client.specs.State as model
use Rattle.client.specs.State.{stops}
use Rattle.client.specs.Client as whole

abbrev pub state_of : State → model.State
state_of s =
    record {
      settings = option_map settings_of s.settings;
      own = s.own;
      holder = lending.client_of s.holder;
      schedule = s.schedule;
      last = s.last;
    }

abbrev pub taking : Option Use → List Message
taking None = []
taking (Some u) = InUse u.address u.until ∷ []

abbrev pub turn_of : Turn → model.Turn
turn_of t = record { state = state_of t.state; says = stops (option_map use_of t.left) ++ taking t.taken }

-- the request is put out last
abbrev pub and_asks : Option lent.Request → List Message → List Message
and_asks None ms = ms
and_asks (Some r) ms = ms ++ (Request r ∷ [])

-- a request uses the oldest nonce up
abbrev pub unused : Option lent.Request → List ℕ → List ℕ
unused None ns = ns
unused (Some r) ns = drop 1 ns

abbrev pub step_of : Step → List ℕ → whole.Step
step_of p ns =
    record {
      client = record { state = state_of p.turn.state; nonces = unused p.request ns };
      says = and_asks p.request (turn_of p.turn).says;
    }

-- a turn whose client then asked
abbrev pub asked_of : Turn → State → lent.Request → Step
asked_of t s r = record { turn = record { state = s; left = t.left; taken = t.taken }; request = Some r }

abbrev pub client_of : Client → whole.Client
client_of c = record { state = state_of c.state; nonces = deque_items c.nonces }
