-- Each step of the code as a step of the parties.
-- Assumes nothing.
use Rattle.std.proofs.Common.{◌≡◌, ℕ, ◌<◌, cond, List, ◌++◌, length, get_or, set, is_ok, IfOk, Ok, Err, vec_items, Result, sym, ap, ◌∙◌}
use Rattle.std.specs.declared.alloc.AllocError.{AllocError}
use Rattle.lease.specs.Table.{at}
use Rattle.wire.specs.declared.message.Message.{Message}
use Rattle.server.specs.Of.{state_of}
use Rattle.client.specs.declared.client.Client as code
use Rattle.client.specs.Client as client
use Rattle.client.specs.Client.{hears}
use Rattle.client.specs.Of.{client_of}
use Rattle.system.specs.Parties as system
use Rattle.system.specs.Parties.{ToClient, happens}
use Rattle.replay.specs.declared.parties.Parties.{Parties}
use Rattle.replay.specs.Parties.{clients_of, parties_of}
use Rattle.replay.proofs.Places.{client-read, clients-set}

pub client-heard : (r : Result Unit AllocError) (p : Parties) (i : ℕ) (x y : code.Client) (bs : List ℕ) (said out : List Message) → i < length (vec_items p.clients) →
    x ≡ get_or (vec_items p.clients) i x → client_of y ≡ cond (is_ok r) (hears bs (client_of x)).client (client_of x) → out ≡ cond (is_ok r) (said ++ (hears bs (client_of x)).says) said →
    IfOk r (λ u. (◌≡◌ {A = system.Parties} (record { server = state_of p.server; clients = clients_of (set (vec_items p.clients) i y) }) (happens (ToClient i bs) (parties_of p)).parties) × (out ≡ said ++ (happens (ToClient i bs) (parties_of p)).said))
client-heard (Err e) p i x y bs said out h r f g = tt
client-heard (Ok u) p i x y bs said out h r f g =
    let z : client_of x ≡ clients_of (vec_items p.clients) i = sym (client-read (vec_items p.clients) i x h r) in (
      ap (λ (k : ℕ → client.Client). record { server = state_of p.server; clients = k })
          (clients-set (vec_items p.clients) i y h ∙ ap (λ (k : client.Client). at i k (clients_of (vec_items p.clients))) (f ∙ ap (λ (k : client.Client). (hears bs k).client) z)),
      g ∙ ap (λ (k : client.Client). said ++ (hears bs k).says) z,
    )
