-- Why a byte string is refused.
use Rattle.std.proofs.Common.{◌≡◌, ℕ, ◌<◌, ◌≤◌, Bool, true, false, cond, ltb, leb, ◌⊎◌, List, Some, None, Ok, Err, Option, sym, refl, ap, ◌∙◌, subst, inl, inr, MatchResult}
use Rattle.std.proofs.lemmas.Bool.{cond_both, leb-false, ltb-false, both_ways}
use Rattle.lease.specs.declared.fault.Fault as lease
use Rattle.lease.specs.declared.fault.Fault.TheVariants.{Malformed, BadAddress, BadSettings}
use Rattle.lease.specs.Settings.{valid}
use Rattle.wire.specs.declared.message.Message.{Message}
use Rattle.wire.specs.declared.message.Message.TheVariants.{Request, Grant, Settings, Tick, Crash, Restart, OwnNumber, Nonce, InUse, NoAddress, Fault}
use Rattle.wire.specs.declared.reader.Reader.{Reader}
use Rattle.wire.specs.declared.reader.Reader.TheVariants.{Server, Client, Tool}
use Rattle.wire.specs.Decode.{Answer, addressed, answered, decoded, given, judged, judged_by, received}
use Rattle.wire.specs.Laws.{Taken}
use Rattle.wire.specs.Meant.{Known}
use Rattle.wire.specs.Message.{kind, encoded}
use Rattle.wire.specs.Read.{read}
use Rattle.wire.specs.Reader.{takes}
use Rattle.wire.specs.Refused.{Outside, Own, Party, Refused, Unsettled}
use Rattle.wire.proofs.Digits.{Bytes}
use Rattle.wire.proofs.Exactness.{exact, own_bytes}
use Rattle.wire.proofs.Readings.{read-encoded, same_some}

same_fault : (f g : lease.Fault) → ◌≡◌ {A = Answer} (Err f) (Err g) → f ≡ g
same_fault f g e = cc

taken : (a : Message) (g : lease.Fault) → ◌≡◌ {A = Answer} (Ok a) (Err g) → ⊥
taken a g e = cc

failed : (t : Bool) (f : lease.Fault) (a : Message) (g : lease.Fault) → ◌≡◌ {A = Answer} (cond t (Ok a) (Err f)) (Err g) → (t ≡ false) × (f ≡ g)
failed true f a g e = absurd (taken a g e)
failed false f a g e = (refl, same_fault f g e)

-- the two ways in which a message that the reader takes is refused
abbrev Ways : Option ℕ → Message → lease.Fault → Type 0
Ways n a g = (Unsettled n a × (BadSettings ≡ g)) ⊎ (Outside n a × (BadAddress ≡ g))

by_address : (n : Option ℕ) (admits : ℕ → Bool) (P : ℕ → Type 0) (a : Message) (g : lease.Fault) → ((size : ℕ) → admits size ≡ false → P size) → addressed n admits a ≡ Err g → ((n ≡ None) × (BadSettings ≡ g)) ⊎ (Known n P × (BadAddress ≡ g))
by_address None admits P a g says e = inl (refl, same_fault BadSettings g e)
by_address (Some n) admits P a g says e = let (t, same) = failed (admits n) BadAddress a g e in inr (says n t, same)

by_settings : (n : Option ℕ) (good : Bool) (a : Message) (g : lease.Fault) → given n good a ≡ Err g → (n ≡ None → good ≡ false) × (BadSettings ≡ g)
by_settings None good a g e = let (t, same) = failed good BadSettings a g e in (λ _. t, same)
by_settings (Some n) good a g e = (λ none. absurd (cc), same_fault BadSettings g e)

by_receiver : (n : Option ℕ) (a : Message) (g : lease.Fault) → received n a ≡ Err g → Ways n a g
by_receiver n (Request r) g e =
    by_address n (λ size. leb r.preferred size) (λ size. size < r.preferred) (Request r) g (λ size t. leb-false r.preferred size t) e
by_receiver n (Grant h) g e =
    by_address n (λ size. ltb h.address size) (λ size. size ≤ h.address) (Grant h) g (λ size t. ltb-false h.address size t) e
by_receiver n (Settings addresses term skew) g e = inl (by_settings n (valid addresses term skew) (Settings addresses term skew) g e)
by_receiver n Tick g e = absurd (taken Tick g e)
by_receiver n Crash g e = absurd (taken Crash g e)
by_receiver n (Restart clock) g e = absurd (taken (Restart clock) g e)
by_receiver n (OwnNumber client) g e = absurd (taken (OwnNumber client) g e)
by_receiver n (Nonce nonce) g e = absurd (taken (Nonce nonce) g e)
by_receiver n (InUse address until) g e = absurd (taken (InUse address until) g e)
by_receiver n NoAddress g e = absurd (taken NoAddress g e)
by_receiver n (Fault f) g e = absurd (taken (Fault f) g e)

by_reader : (reader : Reader) (n : Option ℕ) (a : Message) (g : lease.Fault) → judged_by reader n a ≡ Err g → Party reader × Ways n a g
by_reader Server n a g e = (tt, by_receiver n a g e)
by_reader Client n a g e = (tt, by_receiver n a g e)
by_reader Tool n a g e = absurd (taken a g e)

by_way : (reader : Reader) (n : Option ℕ) (bs : List ℕ) (a : Message) (g : lease.Fault) → Own reader bs a → Party reader → Ways n a g → Refused reader n bs g
by_way reader n bs a g own party (inl (why, same)) = subst (Refused reader n bs) same (record { message = a; read = own; party = party; why = why })
by_way reader n bs a g own party (inr (why, same)) = subst (Refused reader n bs) same (record { message = a; read = own; party = party; why = why })

by_judgement : (reader : Reader) (n : Option ℕ) (bs : List ℕ) (a : Message) (g : lease.Fault) → read bs ≡ Some a → bs ≡ encoded a → judged reader n a ≡ Err g → Refused reader n bs g
by_judgement reader n bs a g r is e =
    cond_both (takes reader (kind a)) (judged_by reader n a) (Err Malformed) (λ q. q ≡ Err g → Refused reader n bs g) (λ t f. let (party, way) = by_reader reader n a g f in by_way reader n bs a g (record { is = is; own = t }) party way) (λ t f. subst (Refused reader n bs) (same_fault Malformed g f) (λ m fits own. both_ways (takes reader (kind a)) t (ap (λ (x : Message). takes reader (kind x)) (same_some a m (sym r ∙ (ap read own.is ∙ read-encoded m fits))) ∙ own.own))) e

by_answer : (reader : Reader) (n : Option ℕ) (bs : List ℕ) (o : Option Message) (g : lease.Fault) → Bytes bs → read bs ≡ o → answered reader n o ≡ Err g → Refused reader n bs g
by_answer reader n bs None g b r e =
    subst (Refused reader n bs) (same_fault Malformed g e) (λ m fits own. let none : Some m ≡ None = sym (read-encoded m fits) ∙ (sym (ap read own.is) ∙ r) in cc)
by_answer reader n bs (Some a) g b r e = by_judgement reader n bs a g r (own_bytes bs b a r) e

refusals : (reader : Reader) (n : Option ℕ) (bs : List ℕ) → Bytes bs → (g : lease.Fault) → decoded reader n bs ≡ Err g → Refused reader n bs g
refusals reader n bs b g e = by_answer reader n bs (read bs) g b refl e

-- an answer says what the bytes are, or why they are refused
pub law : (reader : Reader) (n : Option ℕ) (bs : List ℕ) → Bytes bs → (a : Answer) → a ≡ decoded reader n bs → MatchResult a (λ m. Taken reader n bs m) (λ f. Refused reader n bs f)
law reader n bs b (Ok m) e = exact reader n bs b m (sym e)
law reader n bs b (Err f) e = refusals reader n bs b f (sym e)
