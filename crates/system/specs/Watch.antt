-- What is noted in a run to tell whether its premises hold, and which premise an event is the first to break.
-- Assumes nothing.
use Rattle.std.specs.Prelude.{ℕ, zero, suc, ◌+◌, ◌-◌, ◌^◌, min, max, Bool, true, false, cond, not, ◌&&◌, ◌||◌, List, [], ◌∷◌, ◌++◌, is_some, Some, None, Option, ◌==◌, nat_lt}
use Rattle.lease.specs.declared.fault.Fault.{Fault}
use Rattle.lease.specs.declared.fault.Fault.TheVariants.{Malformed, BadAddress, OtherClient, NotWaiting, TooLate, NoneFree, BadSettings, TableLost, CountExhausted}
use Rattle.lease.specs.declared.message.Grant as given
use Rattle.lease.specs.declared.message.Request as asked
use Rattle.lease.specs.Settings as model
use Rattle.lease.specs.Table.{at}
use Rattle.lease.specs.World.{elem}
use Rattle.wire.specs.declared.message.Message.{Message}
use Rattle.wire.specs.declared.message.Message.TheVariants as message
use Rattle.client.specs.Nonces.{requests}
use Rattle.system.specs.declared.line.Premise.{Premise}
use Rattle.system.specs.declared.line.Premise.TheVariants as premise
use Rattle.system.specs.Parties.{Parties, Event, ToServer, ToClient, Cuts, Damages, Outcome, heard, places}

-- how far a client's clock was ahead of the server's, least and most, since the client's start; 2^63 stands for not at all
pub record Lead : Type 0 where
  pub least : ℕ
  pub most : ℕ

-- all requests and grants that were sent, and all nonces that were drawn; the settings that a party took first; the leads of clients
pub record Watch : Type 0 where
  pub requests : List asked.Request
  pub grants : List given.Grant
  pub nonces : List ℕ
  pub settings : Option model.Settings
  pub leads : ℕ → Option Lead

abbrev pub unwatched : Watch
unwatched = record { requests = []; grants = []; nonces = []; settings = None; leads = λ i. None }

-- some number below `n` passes the test
unfoldable pub any_below : (ℕ → Bool) → (n : ℕ) → Bool
any_below test zero = false
any_below test (suc n) = test n || any_below test n

-- MESSAGES
abbrev pub same_request : asked.Request → asked.Request → Bool
same_request r q = r.client == q.client && (r.nonce == q.nonce && r.preferred == q.preferred)

abbrev pub same_grant : given.Grant → given.Grant → Bool
same_grant g h = g.client == h.client && (g.nonce == h.nonce && g.address == h.address)

unfoldable pub requested : asked.Request → List asked.Request → Bool
requested r [] = false
requested r (q ∷ qs) = same_request r q || requested r qs

unfoldable pub granted : given.Grant → List given.Grant → Bool
granted g [] = false
granted g (h ∷ hs) = same_grant g h || granted g hs

-- a request that comes to the server, or a grant that comes to a client, and was never sent
abbrev pub unsent_request : Option Message → Watch → Bool
unsent_request None w = false
unsent_request (Some (message.Request r)) w = not (requested r w.requests)
unsent_request (Some (message.Grant g)) w = false
unsent_request (Some (message.Settings n t e)) w = false
unsent_request (Some message.Tick) w = false
unsent_request (Some message.Crash) w = false
unsent_request (Some (message.Restart clock)) w = false
unsent_request (Some (message.OwnNumber n)) w = false
unsent_request (Some (message.Nonce n)) w = false
unsent_request (Some (message.InUse a u)) w = false
unsent_request (Some message.NoAddress) w = false
unsent_request (Some (message.Fault f)) w = false

abbrev pub unsent_grant : Option Message → Watch → Bool
unsent_grant None w = false
unsent_grant (Some (message.Request r)) w = false
unsent_grant (Some (message.Grant g)) w = not (granted g w.grants)
unsent_grant (Some (message.Settings n t e)) w = false
unsent_grant (Some message.Tick) w = false
unsent_grant (Some message.Crash) w = false
unsent_grant (Some (message.Restart clock)) w = false
unsent_grant (Some (message.OwnNumber n)) w = false
unsent_grant (Some (message.Nonce n)) w = false
unsent_grant (Some (message.InUse a u)) w = false
unsent_grant (Some message.NoAddress) w = false
unsent_grant (Some (message.Fault f)) w = false

abbrev pub unsent : Event → Watch → Bool
unsent (ToServer bs) w = unsent_request (heard (ToServer bs)) w
unsent (ToClient i bs) w = unsent_grant (heard (ToClient i bs)) w
unsent (Cuts bs n c) w = unsent_request (heard (Cuts bs n c)) w
unsent (Damages d clock) w = false

abbrev pub grant_of : Message → List given.Grant
grant_of (message.Request r) = []
grant_of (message.Grant g) = g ∷ []
grant_of (message.Settings n t e) = []
grant_of message.Tick = []
grant_of message.Crash = []
grant_of (message.Restart clock) = []
grant_of (message.OwnNumber n) = []
grant_of (message.Nonce n) = []
grant_of (message.InUse a u) = []
grant_of message.NoAddress = []
grant_of (message.Fault f) = []

unfoldable pub grants : List Message → List given.Grant
grants [] = []
grants (m ∷ ms) = grant_of m ++ grants ms

-- clients send requests, and the server sends grants
abbrev pub requests_by : Event → List Message → List asked.Request
requests_by (ToServer bs) ms = []
requests_by (ToClient i bs) ms = requests ms
requests_by (Cuts bs n c) ms = []
requests_by (Damages d clock) ms = []

abbrev pub grants_by : Event → List Message → List given.Grant
grants_by (ToServer bs) ms = grants ms
grants_by (ToClient i bs) ms = []
grants_by (Cuts bs n c) ms = []
grants_by (Damages d clock) ms = []

-- NONCES, that clients are lent
abbrev pub nonce_in : Option Message → List ℕ
nonce_in None = []
nonce_in (Some (message.Request r)) = []
nonce_in (Some (message.Grant g)) = []
nonce_in (Some (message.Settings n t e)) = []
nonce_in (Some message.Tick) = []
nonce_in (Some message.Crash) = []
nonce_in (Some (message.Restart clock)) = []
nonce_in (Some (message.OwnNumber n)) = []
nonce_in (Some (message.Nonce n)) = n ∷ []
nonce_in (Some (message.InUse a u)) = []
nonce_in (Some message.NoAddress) = []
nonce_in (Some (message.Fault f)) = []

abbrev pub drawn : Event → List ℕ
drawn (ToServer bs) = []
drawn (ToClient i bs) = nonce_in (heard (ToClient i bs))
drawn (Cuts bs n c) = []
drawn (Damages d clock) = []

abbrev pub any_in : List ℕ → List ℕ → Bool
any_in [] ns = false
any_in (m ∷ ms) ns = elem m ns || any_in ms ns

-- NUMBERS
abbrev pub same_number : Option ℕ → Option ℕ → Bool
same_number None o = false
same_number (Some n) None = false
same_number (Some n) (Some m) = n == m

abbrev pub clash : Parties → (i j : ℕ) → Bool
clash x i j = not (j == i) && same_number (x.clients i).state.own (x.clients j).state.own

-- another client has the number of the one that the event came to
abbrev pub shares_number : Event → Parties → Bool
shares_number (ToServer bs) x = false
shares_number (ToClient i bs) x = any_below (clash x i) places
shares_number (Cuts bs n c) x = false
shares_number (Damages d clock) x = false

-- SETTINGS
abbrev pub knows : Event → Parties → Option model.Settings
knows (ToServer bs) x = x.server.settings
knows (ToClient i bs) x = (x.clients i).state.settings
knows (Cuts bs n c) x = x.server.settings
knows (Damages d clock) x = x.server.settings

abbrev pub or_first : Option model.Settings → Option model.Settings → Option model.Settings
or_first None o = o
or_first (Some k) o = Some k

abbrev pub differ : Option model.Settings → Option model.Settings → Bool
differ None o = false
differ (Some k) None = false
differ (Some k) (Some j) = not (k.addresses == j.addresses && (k.term == j.term && k.skew == j.skew))

-- COUNTS
abbrev pub is_exhausted : Fault → Bool
is_exhausted Malformed = false
is_exhausted BadAddress = false
is_exhausted OtherClient = false
is_exhausted NotWaiting = false
is_exhausted TooLate = false
is_exhausted NoneFree = false
is_exhausted BadSettings = false
is_exhausted TableLost = false
is_exhausted CountExhausted = true

abbrev pub fault_in : Message → Option Fault
fault_in (message.Request r) = None
fault_in (message.Grant g) = None
fault_in (message.Settings n t e) = None
fault_in message.Tick = None
fault_in message.Crash = None
fault_in (message.Restart clock) = None
fault_in (message.OwnNumber n) = None
fault_in (message.Nonce n) = None
fault_in (message.InUse a u) = None
fault_in message.NoAddress = None
fault_in (message.Fault f) = Some f

abbrev pub exhausted_by : Option Fault → Bool
exhausted_by None = false
exhausted_by (Some f) = is_exhausted f

unfoldable pub exhausts : List Message → Bool
exhausts [] = false
exhausts (m ∷ ms) = exhausted_by (fault_in m) || exhausts ms

-- CLOCKS
abbrev pub is_tick_in : Option Message → Bool
is_tick_in None = false
is_tick_in (Some (message.Request r)) = false
is_tick_in (Some (message.Grant g)) = false
is_tick_in (Some (message.Settings n t e)) = false
is_tick_in (Some message.Tick) = true
is_tick_in (Some message.Crash) = false
is_tick_in (Some (message.Restart clock)) = false
is_tick_in (Some (message.OwnNumber n)) = false
is_tick_in (Some (message.Nonce n)) = false
is_tick_in (Some (message.InUse a u)) = false
is_tick_in (Some message.NoAddress) = false
is_tick_in (Some (message.Fault f)) = false

abbrev pub is_tick : Event → Bool
is_tick (ToServer bs) = is_tick_in (heard (ToServer bs))
is_tick (ToClient i bs) = is_tick_in (heard (ToClient i bs))
is_tick (Cuts bs n c) = false
is_tick (Damages d clock) = false

-- the clock of a restart that is taken
abbrev pub start_in : Option Message → Option ℕ
start_in None = None
start_in (Some (message.Request r)) = None
start_in (Some (message.Grant g)) = None
start_in (Some (message.Settings n t e)) = None
start_in (Some message.Tick) = None
start_in (Some message.Crash) = None
start_in (Some (message.Restart clock)) = cond (nat_lt clock (2 ^ 63)) (Some clock) None
start_in (Some (message.OwnNumber n)) = None
start_in (Some (message.Nonce n)) = None
start_in (Some (message.InUse a u)) = None
start_in (Some message.NoAddress) = None
start_in (Some (message.Fault f)) = None

abbrev pub below : Option ℕ → (clock : ℕ) → Bool
below None clock = false
below (Some n) clock = nat_lt n clock

-- the server restarts with a clock below the one that it had
abbrev pub sets_back : Event → Parties → Bool
sets_back (ToServer bs) x = below (start_in (heard (ToServer bs))) x.server.server.clock
sets_back (ToClient i bs) x = false
sets_back (Cuts bs n c) x = false
sets_back (Damages d clock) x = below (start_in (heard (Damages d clock))) x.server.server.clock

abbrev pub lead : (client server : ℕ) → ℕ
lead x v = (x + 2 ^ 63) - v

abbrev pub widened : ℕ → Option Lead → Lead
widened l None = record { least = l; most = l }
widened l (Some d) = record { least = min d.least l; most = max d.most l }

-- server and client are up, and the client has a number
abbrev pub both_up : Parties → ℕ → Bool
both_up x i = x.server.server.up && ((x.clients i).state.holder.up && is_some (x.clients i).state.own)

-- the moment is noted for each such client
abbrev pub noted : Parties → (ℕ → Option Lead) → ℕ → Option Lead
noted x ls i = cond (both_up x i) (Some (widened (lead (x.clients i).state.holder.clock x.server.server.clock) (ls i))) (ls i)

-- a client that restarts or crashes begins anew
abbrev pub anew : Event → Parties → (ℕ → Option Lead) → ℕ → Option Lead
anew (ToServer bs) x ls = ls
anew (ToClient i bs) x ls = cond (is_some (start_in (heard (ToClient i bs))) || not (x.clients i).state.holder.up) (at i None ls) ls
anew (Cuts bs n c) x ls = ls
anew (Damages d clock) x ls = ls

-- within a run of ticks no moment is noted
abbrev pub leads_after : (judged : Bool) → Event → Parties → (ℕ → Option Lead) → ℕ → Option Lead
leads_after judged e x ls = cond judged (noted x (anew e x ls)) (anew e x ls)

abbrev pub wide : (skew : ℕ) → Option Lead → Bool
wide k None = false
wide k (Some d) = nat_lt (d.least + k) d.most

-- the clocks of some client and of the server went on by amounts that differ by more than the skew
abbrev pub apart : Option model.Settings → (ℕ → Option Lead) → Bool
apart None ls = false
apart (Some k) ls = any_below (λ i. wide k.skew (ls i)) places

-- THE WATCH AFTER AN EVENT, which left the parties `y` and put out `said`
abbrev pub watched : (judged : Bool) → Event → Outcome → Watch → Watch
watched judged e y w =
    record {
      requests = requests_by e y.said ++ w.requests;
      grants = grants_by e y.said ++ w.grants;
      nonces = drawn e ++ w.nonces;
      settings = or_first w.settings (knows e y.parties);
      leads = leads_after judged e y.parties w.leads;
    }

abbrev pub or_else : Bool → Premise → Option Premise → Option Premise
or_else b p o = cond b (Some p) o

-- THE PREMISE THAT AN EVENT BREAKS, the first of them: from the parties `x` and the watch `w` on, to the watch `v`
abbrev pub breaks : Event → Parties → Outcome → (before after : Watch) → Option Premise
breaks e x y w v =
    or_else (sets_back e x || apart v.settings v.leads) premise.Clocks
    (or_else (unsent e w) premise.Message
    (or_else (any_in (drawn e) w.nonces) premise.Nonce
    (or_else (shares_number e y.parties) premise.Number
    (or_else (differ v.settings (knows e y.parties)) premise.Settings
    (or_else (exhausts y.said) premise.Count None)))))
