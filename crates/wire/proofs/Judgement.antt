-- Who takes which message.
use Rattle.std.proofs.Common.{◌≡◌, ℕ, ◌<◌, ◌≤◌, Bool, true, false, cond, ltb, leb, Some, None, Ok, Err, Option, refl, ap, ◌∙◌, subst}
use Rattle.std.proofs.lemmas.Bool.{cond_both, cond-true, le-leb, leb-true, lt-ltb, ltb-true}
use Rattle.lease.specs.declared.fault.Fault as lease
use Rattle.lease.specs.declared.fault.Fault.TheVariants.{Malformed, BadAddress, BadSettings}
use Rattle.lease.specs.Settings.{valid}
use Rattle.wire.specs.declared.message.Message.{Message}
use Rattle.wire.specs.declared.message.Message.TheVariants.{Request, Grant, Settings, Tick, Crash, Restart, OwnNumber, Nonce, InUse, NoAddress, Fault}
use Rattle.wire.specs.declared.reader.Reader.{Reader}
use Rattle.wire.specs.declared.reader.Reader.TheVariants.{Server, Client, Tool}
use Rattle.wire.specs.Decode.{Answer, addressed, given, judged, judged_by, received}
use Rattle.wire.specs.Meant.{Known, Sound, Suits, Meant}
use Rattle.wire.specs.Message.{kind}
use Rattle.wire.specs.Reader.{takes}

unchanged : (a b : Message) → ◌≡◌ {A = Answer} (Ok a) (Ok b) → a ≡ b
unchanged a b e = cc

pub refusal : (f : lease.Fault) (b : Message) → ◌≡◌ {A = Answer} (Err f) (Ok b) → ⊥
refusal f b e = cc

tested : (t : Bool) (f : lease.Fault) (a b : Message) → ◌≡◌ {A = Answer} (cond t (Ok a) (Err f)) (Ok b) → (t ≡ true) × (a ≡ b)
tested true f a b e = (refl, unchanged a b e)
tested false f a b e = absurd (refusal f b e)

by_address : (n : Option ℕ) (admits : ℕ → Bool) (P : ℕ → Type 0) (a b : Message) → ((size : ℕ) → admits size ≡ true → P size) → addressed n admits a ≡ Ok b → Known n P × (a ≡ b)
by_address None admits P a b says e = absurd (refusal BadSettings b e)
by_address (Some n) admits P a b says e = let (t, same) = tested (admits n) BadAddress a b e in (says n t, same)

by_settings : (n : Option ℕ) (good : Bool) (a b : Message) → given n good a ≡ Ok b → ((n ≡ None) × (good ≡ true)) × (a ≡ b)
by_settings None good a b e = let (t, same) = tested good BadSettings a b e in ((refl, t), same)
by_settings (Some n) good a b e = absurd (refusal BadSettings b e)

by_receiver : (n : Option ℕ) (a b : Message) → received n a ≡ Ok b → Sound n a × (a ≡ b)
by_receiver n (Request r) b e =
    by_address n (λ size. leb r.preferred size) (λ size. r.preferred ≤ size) (Request r) b (λ size t. leb-true r.preferred size t) e
by_receiver n (Grant g) b e =
    by_address n (λ size. ltb g.address size) (λ size. g.address < size) (Grant g) b (λ size t. ltb-true g.address size t) e
by_receiver n (Settings addresses term skew) b e = by_settings n (valid addresses term skew) (Settings addresses term skew) b e
by_receiver n Tick b e = (tt, unchanged Tick b e)
by_receiver n Crash b e = (tt, unchanged Crash b e)
by_receiver n (Restart clock) b e = (tt, unchanged (Restart clock) b e)
by_receiver n (OwnNumber client) b e = (tt, unchanged (OwnNumber client) b e)
by_receiver n (Nonce nonce) b e = (tt, unchanged (Nonce nonce) b e)
by_receiver n (InUse address until) b e = (tt, unchanged (InUse address until) b e)
by_receiver n NoAddress b e = (tt, unchanged NoAddress b e)
by_receiver n (Fault f) b e = (tt, unchanged (Fault f) b e)

by_reader : (reader : Reader) (n : Option ℕ) (a b : Message) → judged_by reader n a ≡ Ok b → Suits reader n a × (a ≡ b)
by_reader Server n a b e = by_receiver n a b e
by_reader Client n a b e = by_receiver n a b e
by_reader Tool n a b e = (tt, unchanged a b e)

-- what is taken is the message judged, and is meant for its reader
pub by_judgement : (reader : Reader) (n : Option ℕ) (a b : Message) → judged reader n a ≡ Ok b → (Some a ≡ Some b) × Meant reader n b
by_judgement reader n a b e =
    cond_both (takes reader (kind a)) (judged_by reader n a) (Err Malformed) (λ q. q ≡ Ok b → (Some a ≡ Some b) × Meant reader n b) (λ t f. let (suits, same) = by_reader reader n a b f in (ap (λ (x : Message). Some x) same, subst (Meant reader n) same (record { own = t; suits = suits }))) (λ t f. absurd (refusal Malformed b f)) e

to_address : (n : Option ℕ) (admits : ℕ → Bool) (P : ℕ → Type 0) (a : Message) → ((size : ℕ) → P size → admits size ≡ true) → Known n P → addressed n admits a ≡ Ok a
to_address None admits P a says h = absurd h
to_address (Some n) admits P a says h = cond-true (admits n) (Ok a) (Err BadAddress) (says n h)

to_settings : (n : Option ℕ) (good : Bool) (a : Message) → n ≡ None → good ≡ true → given n good a ≡ Ok a
to_settings None good a e t = cond-true good (Ok a) (Err BadSettings) t
to_settings (Some n) good a e t = absurd (cc)

to_receiver : (n : Option ℕ) (a : Message) → Sound n a → received n a ≡ Ok a
to_receiver n (Request r) h =
    to_address n (λ size. leb r.preferred size) (λ size. r.preferred ≤ size) (Request r) (λ size l. le-leb r.preferred size l) h
to_receiver n (Grant g) h =
    to_address n (λ size. ltb g.address size) (λ size. g.address < size) (Grant g) (λ size l. lt-ltb g.address size l) h
to_receiver n (Settings addresses term skew) h = to_settings n (valid addresses term skew) (Settings addresses term skew) h.0 h.1
to_receiver n Tick h = refl
to_receiver n Crash h = refl
to_receiver n (Restart clock) h = refl
to_receiver n (OwnNumber client) h = refl
to_receiver n (Nonce nonce) h = refl
to_receiver n (InUse address until) h = refl
to_receiver n NoAddress h = refl
to_receiver n (Fault f) h = refl

to_reader : (reader : Reader) (n : Option ℕ) (a : Message) → Suits reader n a → judged_by reader n a ≡ Ok a
to_reader Server n a h = to_receiver n a h
to_reader Client n a h = to_receiver n a h
to_reader Tool n a h = refl

pub to_judgement : (reader : Reader) (n : Option ℕ) (a : Message) → Meant reader n a → judged reader n a ≡ Ok a
to_judgement reader n a h = cond-true (takes reader (kind a)) (judged_by reader n a) (Err Malformed) h.own ∙ to_reader reader n a h.suits
