-- What holds of a client at every moment of a run: its term is a minute at least, and a request that is due and can be sent was sent.
-- Assumes nothing.
use Rattle.std.proofs.Common.{◌≡◌, ℕ, ◌+◌, ◌-◌, ◌*◌, ◌^◌, ◌<◌, ◌≤◌, Bool, true, false, ◌&&◌, ltb, leb, List, [], ◌∷◌, is_some, IfOk, Some, None, Ok, Err, Option, Result, refl, ap, ⊎_elim, arith}
use Rattle.std.specs.Option.{option_map}
use Rattle.std.proofs.lemmas.Bool.{cond_both, both_ways, and_parts, and_cases, lt-leb, leb-true}
use Rattle.lease.specs.declared.fault.Fault as lease
use Rattle.lease.specs.declared.message.Grant as lent
use Rattle.lease.specs.Settings as model
use Rattle.lease.specs.Settings.{valid}
use Rattle.lease.specs.World as world
use Rattle.lease.specs.Run.{hearing}
use Rattle.retry.specs.declared.schedule.Schedule.{Schedule}
use Rattle.retry.specs.Schedule.{requested, is_due}
use Rattle.retry.specs.Run.{over}
use Rattle.retry.proofs.Steps.{lasts-within, renewal-least}
use Rattle.wire.specs.declared.message.Message.{Message}
use Rattle.wire.specs.declared.message.Message.TheVariants.{Request, Grant, Settings, Tick, Crash, Restart, OwnNumber, Nonce, InUse, NoAddress, Fault}
use Rattle.wire.specs.Decode.{Answer}
use Rattle.client.specs.State as state
use Rattle.client.specs.State.{State, Turn, in_use, until, ticks, named, held_by, does}
use Rattle.client.specs.Client.{Client, Step, keeps, sends, ready, asks_by, queued, goes_on, answers, understood, hears}
use Rattle.client.specs.Pacing.{some, equipped}
use Rattle.client.specs.Run.{Run, client}
use Rattle.client.proofs.Events.{Long}

-- A TERM IS A MINUTE AT LEAST
valid-long : (n t k : ℕ) → valid n t k ≡ true → 60 ≤ t
valid-long n t k e =
    let range : leb 1 n && leb n 1024 && leb 60 t && leb t 86400 && leb k 600 ≡ true = (and_parts (leb 1 n && leb n 1024 && leb 60 t && leb t 86400 && leb k 600) (ltb (2 * k) t) e).0 in
    let term : leb 1 n && leb n 1024 && leb 60 t && leb t 86400 ≡ true = (and_parts (leb 1 n && leb n 1024 && leb 60 t && leb t 86400) (leb k 600) range).0 in
    let least : leb 1 n && leb n 1024 && leb 60 t ≡ true = (and_parts (leb 1 n && leb n 1024 && leb 60 t) (leb t 86400) term).0 in
    leb-true 60 t (and_parts (leb 1 n && leb n 1024) (leb 60 t) least).1

module _ (s : State) where
  abbrev Longer : Result Turn lease.Fault → Type 0
  Longer r = IfOk r (λ t. Long s.settings → Long t.state.settings)

  tick_long : Longer (ticks s)
  tick_long =
      cond_both s.holder.up _ _ (λ r. Longer r)
      (λ up. cond_both (leb (2 ^ 63) (s.holder.clock + 1)) _ _ (λ r. Longer r) (λ e. tt)
      (λ e. cond_both (over (s.holder.clock + 1) (option_map until (in_use s))) _ _ (λ (t : Turn). Long s.settings → Long t.state.settings) (λ f l. l) (λ f l. l)))
      (λ down l. l)

  held-long : (term a : ℕ) (r : Result world.Client lease.Fault) → Longer (held_by term a s r)
  held-long term a (Ok h) = λ l. l
  held-long term a (Err f) = tt

  granted-long : (g : lent.Grant) (o : Option ℕ) (k : Option model.Settings) → Longer (state.granted o k g s)
  granted-long g None k = tt
  granted-long g (Some own) None = tt
  granted-long g (Some own) (Some k) = held-long k.term g.address (hearing k.term own g s.holder)

  named-long : (o : Option ℕ) (n : ℕ) → Longer (named o n s)
  named-long None n = λ l. l
  named-long (Some m) n = tt

  does-long : (m : Message) → Longer (does m s)
  does-long (Request r) = tt
  does-long (Grant g) = cond_both s.holder.up _ _ (λ r. Longer r) (λ up. granted-long g s.own s.settings) (λ down l. l)
  does-long (Settings n t k) = cond_both (valid n t k) _ _ (λ r. Longer r) (λ e l. valid-long n t k e) (λ e. tt)
  does-long Tick = tick_long
  does-long Crash = cond_both s.holder.up _ _ (λ (t : Turn). Long s.settings → Long t.state.settings) (λ up l. l) (λ down l. l)
  does-long (Restart clock) = cond_both (leb (2 ^ 63) clock) _ _ (λ r. Longer r) (λ e. tt) (λ e l. l)
  does-long (OwnNumber n) = named-long s.own n
  does-long (Nonce n) = λ l. l
  does-long (InUse a u) = tt
  does-long NoAddress = tt
  does-long (Fault f) = tt

asks-long : (t : Turn) (k : Option model.Settings) (own : Option ℕ) (ns : List ℕ) → Long t.state.settings → Long (asks_by k own t ns).client.state.settings
asks-long t None own ns l = l
asks-long t (Some k) None ns l = l
asks-long t (Some k) (Some own) [] l = l
asks-long t (Some k) (Some own) (n ∷ ns) l = cond_both (ready t.state) _ _ (λ (p : Step). Long p.client.state.settings) (λ e. l) (λ e. l)

going_long : (c : Client) (ns : List ℕ) (r : Result Turn lease.Fault) → Longer c.state r → Long c.state.settings → Long (goes_on c ns r).client.state.settings
going_long c ns (Ok t) k l = asks-long t t.state.settings t.state.own ns (k l)
going_long c ns (Err f) k l = l

answers-long : (c : Client) (a : Answer) → Long c.state.settings → Long (answers c a).client.state.settings
answers-long c (Ok m) l = going_long c (queued m c.nonces) (does m c.state) (does-long c.state m) l
answers-long c (Err f) l = l

pub long : (bs : Run) → Long (client bs).state.settings
unfolding client hears
long [] = tt
long (b ∷ bs) = answers-long (client bs) (understood b (client bs)) (long bs)

-- WHAT IS DUE AND CAN BE SENT WAS SENT
abbrev Prompt : Client → Type 0
Prompt c = equipped c ≡ true → is_due c.state.schedule c.state.holder.clock ≡ false

requested-later : (s : Schedule) (now : ℕ) (o : Option ℕ) → now < (requested s now o).next
requested-later s now None = omega (arith, (lasts-within s.pause).0)
requested-later s now (Some u) = omega (arith, renewal-least (u - now))

four_parts : (p q r t : Bool) → (p && (q && (r && t))) ≡ true → (p ≡ true) × (q ≡ true) × (r ≡ true) × (t ≡ true)
four_parts p q r t e =
    let a : (p ≡ true) × ((q && (r && t)) ≡ true) = and_parts p (q && (r && t)) e in
    let b : (q ≡ true) × ((r && t) ≡ true) = and_parts q (r && t) a.1 in
    let c : (r ≡ true) × (t ≡ true) = and_parts r t b.1 in
    (a.0, b.0, c.0, c.1)

-- what an equipped client has
pub has_all : (c : Client) → equipped c ≡ true → (c.state.holder.up ≡ true) × (is_some c.state.settings ≡ true) × (is_some c.state.own ≡ true) × (some c.nonces ≡ true)
has_all c e = four_parts c.state.holder.up (is_some c.state.settings) (is_some c.state.own) (some c.nonces) e

asks_promptly : (t : Turn) (k : Option model.Settings) (own : Option ℕ) (ns : List ℕ) → t.state.settings ≡ k → t.state.own ≡ own → Prompt (asks_by k own t ns).client
asks_promptly t None own ns e f = λ q. absurd (both_ways _ (ap (λ (o : Option model.Settings). is_some o) e) (has_all (keeps t ns).client q).1)
asks_promptly t (Some k) None ns e f = λ q. absurd (both_ways _ (ap (λ (o : Option ℕ). is_some o) f) (has_all (keeps t ns).client q).2)
asks_promptly t (Some k) (Some own) [] e f = λ q. absurd (both_ways false refl (has_all (keeps t []).client q).3)
asks_promptly t (Some k) (Some own) (n ∷ ns) e f =
    cond_both (ready t.state) (sends k own n t ns) (keeps t (n ∷ ns)) (λ (p : Step). Prompt p.client)
    (λ r q. lt-leb (requested t.state.schedule t.state.holder.clock (option_map until (in_use t.state))).next t.state.holder.clock
    (requested-later t.state.schedule t.state.holder.clock (option_map until (in_use t.state))))
    (λ r q. ⊎_elim (λ d. absurd (both_ways t.state.holder.up d (has_all (keeps t (n ∷ ns)).client q).0)) (λ d. d)
    (and_cases t.state.holder.up (is_due t.state.schedule t.state.holder.clock) r))

going_promptly : (c : Client) (ns : List ℕ) (r : Result Turn lease.Fault) → Prompt c → Prompt (goes_on c ns r).client
going_promptly c ns (Ok t) p = asks_promptly t t.state.settings t.state.own ns refl refl
going_promptly c ns (Err f) p = p

answers_promptly : (c : Client) (a : Answer) → Prompt c → Prompt (answers c a).client
answers_promptly c (Ok m) p = going_promptly c (queued m c.nonces) (does m c.state) p
answers_promptly c (Err f) p = p

pub prompt : (bs : Run) → Prompt (client bs)
unfolding client hears
prompt [] = λ e. absurd (both_ways false refl e)
prompt (b ∷ bs) = answers_promptly (client bs) (understood b (client bs)) (prompt bs)
