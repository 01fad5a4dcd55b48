-- From the code's way of hearing a message to the model's.
-- Assumes nothing.
use Rattle.std.proofs.Common.{◌≡◌, ℕ, List, [], ◌++◌, Some, None, Ok, Option, Result, sym, refl, ap, ◌∙◌}
use Rattle.std.specs.Option.{option_map}
use Rattle.std.proofs.lemmas.List.{append-nil}
use Rattle.lease.specs.declared.fault.Fault as lease
use Rattle.lease.specs.declared.settings.Settings as declared
use Rattle.lease.specs.Of.{settings_of}
use Rattle.wire.specs.declared.message.Message.{Message}
use Rattle.wire.specs.declared.message.Message.TheVariants.{Request, Grant, Settings, Tick, Crash, Restart, OwnNumber, Nonce, InUse, NoAddress, Fault}
use Rattle.wire.specs.declared.reader.Reader.TheVariants as reader
use Rattle.wire.specs.Decode.{decoded, pool}
use Rattle.client.specs.State.{State, Turn, does}
use Rattle.client.specs.Client.{Client, queued, goes_on, answers, size, hears}

-- the pool that the code hands on
pub pool-size : (o : Option declared.Settings) → pool o ≡ option_map size (option_map settings_of o)
pool-size None = refl
pool-size (Some s) = refl

unqueued : (s : State) (ns : List ℕ) (r : Result Turn lease.Fault) →
    goes_on (record { state = s; nonces = ns ++ [] }) (ns ++ []) r ≡ goes_on (record { state = s; nonces = ns }) (ns ++ []) r
unqueued s ns r = ap (λ (l : List ℕ). goes_on (record { state = s; nonces = l }) (ns ++ []) r) (append-nil ns)

-- a message that lends a nonce isn't refused, so that a refusal changes nothing
kept : (m : Message) (s : State) (ns : List ℕ) →
    goes_on (record { state = s; nonces = queued m ns }) (queued m ns) (does m s) ≡ goes_on (record { state = s; nonces = ns }) (queued m ns) (does m s)
kept (Request r) s ns = unqueued s ns (does (Request r) s)
kept (Grant g) s ns = unqueued s ns (does (Grant g) s)
kept (Settings n t k) s ns = unqueued s ns (does (Settings n t k) s)
kept Tick s ns = unqueued s ns (does Tick s)
kept Crash s ns = unqueued s ns (does Crash s)
kept (Restart clock) s ns = unqueued s ns (does (Restart clock) s)
kept (OwnNumber n) s ns = unqueued s ns (does (OwnNumber n) s)
kept (Nonce n) s ns = refl
kept (InUse a u) s ns = unqueued s ns (does (InUse a u) s)
kept NoAddress s ns = unqueued s ns (does NoAddress s)
kept (Fault f) s ns = unqueued s ns (does (Fault f) s)

-- the client `d`, which has the message's nonce already, goes on as the client `c` that hears the message
pub heard : (c d : Client) (m : Message) (bs : List ℕ) → d.state ≡ c.state → d.nonces ≡ queued m c.nonces →
    decoded reader.Client (option_map size c.state.settings) bs ≡ Ok m → goes_on d d.nonces (does m d.state) ≡ hears bs c
unfolding hears
heard c d m bs e f g =
    ap (λ (s : State). goes_on (record { state = s; nonces = d.nonces }) d.nonces (does m s)) e
    ∙ ap (λ (l : List ℕ). goes_on (record { state = c.state; nonces = l }) l (does m c.state)) f
    ∙ kept m c.state c.nonces
    ∙ sym (ap (answers c) g)
