-- What is noted of a run, as it stands in memory: each request, grant and nonce as a stamp.
-- Assumes nothing.
use Rattle.std.specs.Prelude.{ℕ, Bool, true, false, cond, ◌&&◌, List, [], ◌∷◌, ◌++◌, map, Some, None, Option, ◌==◌, slice_index_or}
use Rattle.std.specs.Option.{option_map}
use Rattle.lease.specs.declared.message.Grant as given
use Rattle.lease.specs.declared.message.Request as asked
use Rattle.lease.specs.Of.{settings_of}
use Rattle.seen.specs.declared.seen.Seen.{Seen}
use Rattle.seen.specs.declared.stamp.Stamp.{Stamp}
use Rattle.seen.specs.Seen.{stamps_of}
use Rattle.wire.specs.declared.message.Message.{Message}
use Rattle.client.specs.Nonces.{request, requests}
use Rattle.system.specs.declared.line.Party.{Party}
use Rattle.system.specs.declared.line.Party.TheVariants.{Server, Client}
use Rattle.system.specs.Watch as system
use Rattle.replay.specs.declared.lead.Lead.{Lead}
use Rattle.replay.specs.declared.watch.Watch.{Watch}
use Rattle.replay.specs.declared.watch_steps.Moment.{Moment}
use Rattle.replay.specs.declared.watch_steps.Moment.TheVariants.{Judged, WithinTicks}
use Rattle.replay.specs.Lead.{lead_of}

abbrev pub stamp_of_request : asked.Request → Stamp
stamp_of_request r = record { client = r.client; nonce = r.nonce; address = r.preferred }

abbrev pub request_of : Stamp → asked.Request
request_of s = record { client = s.client; nonce = s.nonce; preferred = s.address }

abbrev pub stamp_of_grant : given.Grant → Stamp
stamp_of_grant g = record { client = g.client; nonce = g.nonce; address = g.address }

abbrev pub grant_of : Stamp → given.Grant
grant_of s = record { client = s.client; nonce = s.nonce; address = s.address }

abbrev pub stamp_of_nonce : ℕ → Stamp
stamp_of_nonce n = record { client = 0; nonce = n; address = 0 }

-- the nonces among stamps: those of nobody's
abbrev pub nonces_in : List Stamp → List ℕ
nonces_in [] = []
nonces_in (s ∷ ss) = cond (0 == s.client && 0 == s.address) (s.nonce ∷ nonces_in ss) (nonces_in ss)

abbrev pub requests_of : Seen → List asked.Request
requests_of s = map request_of (stamps_of s)

abbrev pub grants_of : Seen → List given.Grant
grants_of s = map grant_of (stamps_of s)

abbrev pub nonces_of : Seen → List ℕ
nonces_of s = nonces_in (stamps_of s)

abbrev pub leads_of : List (Option Lead) → ℕ → Option system.Lead
leads_of xs i = option_map lead_of (slice_index_or xs i None)

abbrev pub watch_of : Watch → system.Watch
watch_of w =
    record {
      requests = requests_of w.requests;
      grants = grants_of w.grants;
      nonces = nonces_of w.nonces;
      settings = option_map settings_of w.settings;
      leads = leads_of w.leads;
    }

-- what is noted of a message that a party puts out, and of a list of them
abbrev pub stamps_in_message : Party → Message → List Stamp
stamps_in_message Server m = map stamp_of_grant (system.grant_of m)
stamps_in_message (Client i) m = map stamp_of_request (request m)

abbrev pub stamps_in : Party → List Message → List Stamp
stamps_in Server ms = map stamp_of_grant (system.grants ms)
stamps_in (Client i) ms = map stamp_of_request (requests ms)

-- a watch after a party put out these
abbrev pub said_by : Party → List Message → system.Watch → system.Watch
said_by Server ms w = record { requests = w.requests; grants = system.grants ms ++ w.grants; nonces = w.nonces; settings = w.settings; leads = w.leads }
said_by (Client i) ms w = record { requests = requests ms ++ w.requests; grants = w.grants; nonces = w.nonces; settings = w.settings; leads = w.leads }

-- a moment at which a client shows a clock, or none
abbrev pub noted_by : (shown : Option ℕ) → (server : ℕ) → Option system.Lead → Option system.Lead
noted_by None v o = o
noted_by (Some n) v o = Some (system.widened (system.lead n v) o)

abbrev pub is_judged : Moment → Bool
is_judged Judged = true
is_judged WithinTicks = false
