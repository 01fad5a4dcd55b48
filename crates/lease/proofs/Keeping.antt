-- In a run in which the server's clock never goes back, no client ever has two live leases.
-- Assumes nothing.
use Rattle.std.proofs.Common.{ℕ, ◌+◌, ◌≤◌, Bool, true, false, not, ◌&&◌, ◌||◌, List, [], ◌∷◌, Some, None, Ok, Err, Option, sym, refl, arith}
use Rattle.std.proofs.lemmas.Bool.{cond_both}
use Rattle.lease.specs.declared.message.Request.{Request}
use Rattle.lease.specs.Settings.{Settings, life}
use Rattle.lease.specs.Table.{empty, OneEach, Pooled}
use Rattle.lease.specs.Choosing.{Chosen}
use Rattle.lease.specs.World.{Message, Requests, Grants, Server, World, is_silent, elem, sent}
use Rattle.lease.specs.Run.{Answer, Event, Pass, Asks, ServerHears, ServerHearsAndCrashes, ClientHears, ClientStarts, ClientCrashes, ServerCrashes, Forgets, ServerRestarts, over, requested, answer, serves, server_hears, client_hears, step, world}
use Rattle.lease.specs.Premise.{Onward, Forward}
use Rattle.lease.specs.Promise.{OneLeaseEach}
use Rattle.std.proofs.lemmas.Option.{none-some}
use Rattle.lease.proofs.Choosing.{laws}
use Rattle.lease.proofs.Tidy.{one-empty, one_later, one_written, one-forgotten, forgotten-from, pooled-written}
use Rattle.lease.proofs.Answers.{Meant, meant}

pub record Tidy (s : Settings) (v : Server) : Type 0 where
  pub pooled : Pooled s.addresses v.table
  pub one : OneEach v.clock v.table

pub tidy_empty : (s : Settings) (clock : ℕ) (up : Bool) (o : Option ℕ) → Tidy s (record { clock = clock; up = up; silent = o; table = empty })
tidy_empty s clock up o = record { pooled = λ a l e. absurd (none-some l e); one = one-empty clock }

pub tidy_later : (s : Settings) (v : Server) (clock : ℕ) (up : Bool) (o : Option ℕ) → v.clock ≤ clock → Tidy s v → Tidy s (record { clock = clock; up = up; silent = o; table = v.table })
tidy_later s v clock up o n k = record { pooled = k.pooled; one = one_later v.clock clock v.table n k.one }

pub serves_tidy : (s : Settings) (v : Server) (r : Request) (x : Answer) → Meant s v r x → Tidy s v → Tidy s (serves s x v)
serves_tidy s v r (Ok None) by k = k
serves_tidy s v r (Ok (Some g)) by k =
    let ch : Chosen s.addresses v.clock v.table r (Some g.address) = laws s.addresses v.clock v.table r (Some g.address) (sym by.chosen) in
    record {
      pooled = pooled-written s.addresses v.table _ (ch.below g.address refl) k.pooled;
      one = rw by.client (one_written s.addresses v.clock v.table r g.address (life s) (Some g.address) k.pooled k.one ch refl);
    }
serves_tidy s v r (Err f) by k = k

pub hears_tidy : (s : Settings) (w : World) (o : Option Message) → Tidy s w.server → Tidy s (server_hears s o w).server
hears_tidy s w None k = k
hears_tidy s w (Some (Grants g)) k = k
hears_tidy s w (Some (Requests r)) k = serves_tidy s w.server r (answer s w.server r) (meant s w.server r) k

client_tidy : (s : Settings) (w : World) (c : ℕ) (o : Option Message) → Tidy s w.server → Tidy s (client_hears s c o w).server
client_tidy s w c None k = k
client_tidy s w c (Some (Requests r)) k = k
client_tidy s w c (Some (Grants g)) k = k

crashes_tidy : (s : Settings) (w : World) (i : ℕ) (wrote : Bool) → Tidy s w.server → Tidy s (step s (ServerHearsAndCrashes i wrote) w).server
crashes_tidy s w i true k = let h : Tidy s (server_hears s (sent i w.messages) w).server = hears_tidy s w (sent i w.messages) k in record { pooled = h.pooled; one = h.one }
crashes_tidy s w i false k = record { pooled = k.pooled; one = k.one }

pub tidy_step : (s : Settings) (e : Event) (w : World) → Onward e w → Tidy s w.server → Tidy s (step s e w).server
tidy_step s (Pass n f) w on k =
    cond_both (over (w.server.clock + n) w.server.up w.server.silent) _ _ (λ v. Tidy s v)
    (λ e. tidy_empty s _ _ _) (λ e. tidy_later s w.server _ _ _ (omega arith) k)
tidy_step s (Asks c n p) w on k = cond_both ((w.clients c).up && not (elem n w.drawn)) (requested c n p w) w (λ w'. Tidy s w'.server) (λ e. k) (λ e. k)
tidy_step s (ServerHears i) w on k = hears_tidy s w (sent i w.messages) k
tidy_step s (ServerHearsAndCrashes i wrote) w on k = crashes_tidy s w i wrote k
tidy_step s (ClientHears c i) w on k = client_tidy s w c (sent i w.messages) k
tidy_step s (ClientStarts c clock) w on k = k
tidy_step s (ClientCrashes c) w on k = k
tidy_step s ServerCrashes w on k = record { pooled = k.pooled; one = k.one }
tidy_step s (Forgets gone) w on k =
    cond_both w.server.up _ w.server (λ v. Tidy s v)
    (λ e. record {
      pooled = λ a l f. k.pooled a l (forgotten-from w.server.clock gone w.server.table a l f);
      one = one-forgotten w.server.clock gone w.server.table k.one;
    })
    (λ e. k)
tidy_step s (ServerRestarts clock lost) w on k =
    cond_both (lost || is_silent w.server.silent) _ _ (λ v. Tidy s v) (λ e. tidy_empty s clock _ _) (λ e. tidy_later s w.server clock _ _ on k)

pub tidy : (s : Settings) (es : List Event) → Forward s es → Tidy s (world s es).server
unfolding world Forward
tidy s [] on = tidy_empty s 0 _ _
tidy s (e ∷ es) on = tidy_step s e (world s es) on.0 (tidy s es on.1)

pub one-lease-each : OneLeaseEach
one-lease-each s es on = (tidy s es on).one
