-- What is known of a run from a watch that finds no premise broken.
-- Assumes nothing.
use Rattle.std.proofs.Common.{◌≡◌, ℕ, zero, suc, ◌+◌, ◌^◌, ◌<◌, ◌≤◌, min, max, Bool, true, false, not, ◌&&◌, eqb, is_some, Some, None, Option, sym, refl, ap, ◌∙◌, subst, inl, inr, arith}
use native.Mathlib.Nat.{min-le_left, min-le_right, le-max_left, le-max_right}
use Rattle.std.proofs.lemmas.Bool.{cond_both, cond-true, both_ways, cases_lt, cases_eq, eqb-true, eq-eqb, ne_eqb, ltb-false, and_parts, or_parts, not-false}
use Rattle.lease.specs.declared.message.Grant as given
use Rattle.lease.specs.declared.message.Request as asked
use Rattle.lease.specs.Settings as model
use Rattle.std.proofs.lemmas.Option.{none-some, same_Some}
use Rattle.system.specs.declared.line.Premise.{Premise}
use Rattle.system.specs.Parties.{Parties, Event, Outcome, places}
use Rattle.system.specs.Watch.{Lead, Watch, any_below, same_request, same_grant, unsent, drawn, any_in, same_number, clash, shares_number, knows, or_first, differ, exhausts, sets_back, lead, widened, both_up, noted, wide, apart, or_else, breaks}

-- none below `n` passes the test
pub none_below : (test : ℕ → Bool) (n : ℕ) → any_below test n ≡ false → (i : ℕ) → i < n → test i ≡ false
unfolding any_below
none_below test zero e i l = absurd (omega arith)
none_below test (suc n) e i l =
    let p : (test n ≡ false) × (any_below test n ≡ false) = or_parts (test n) (any_below test n) e in
    elim (cases_lt i n) [
      | inl b ↦ none_below test n p.1 i b
      | inr b ↦ let s : i ≡ n = omega arith in subst (λ (z : ℕ). test z ≡ false) (sym s) p.0
    ]

-- the tests of an event that breaks nothing
pub record Unbroken (e : Event) (x : Parties) (y : Outcome) (w v : Watch) : Type 0 where
  pub forward : sets_back e x ≡ false
  pub near : apart v.settings v.leads ≡ false
  pub sent : unsent e w ≡ false
  pub nonces : any_in (drawn e) w.nonces ≡ false
  pub numbers : shares_number e y.parties ≡ false
  pub settings : differ v.settings (knows e y.parties) ≡ false
  pub counts : exhausts y.said ≡ false

or_else_lem : (b : Bool) (p : Premise) (o : Option Premise) → or_else b p o ≡ None → (b ≡ false) × (o ≡ None)
or_else_lem true p o e = absurd (none-some p (sym e))
or_else_lem false p o e = (refl, e)

pub unbroken : (e : Event) (x : Parties) (y : Outcome) (w v : Watch) → breaks e x y w v ≡ None → Unbroken e x y w v
unbroken e x y w v n =
    let p₁ : _ × _ = or_else_lem _ _ _ n in
    let p₂ : _ × _ = or_else_lem _ _ _ p₁.1 in
    let p₃ : _ × _ = or_else_lem _ _ _ p₂.1 in
    let p₄ : _ × _ = or_else_lem _ _ _ p₃.1 in
    let p₅ : _ × _ = or_else_lem _ _ _ p₄.1 in
    let p₆ : _ × _ = or_else_lem _ _ _ p₅.1 in
    let c : (sets_back e x ≡ false) × (apart v.settings v.leads ≡ false) = or_parts (sets_back e x) (apart v.settings v.leads) p₁.0 in
    record { forward = c.0; near = c.1; sent = p₂.0; nonces = p₃.0; numbers = p₄.0; settings = p₅.0; counts = p₆.0 }

-- SETTINGS
same-settings : (k j : model.Settings) → k.addresses ≡ j.addresses → k.term ≡ j.term → k.skew ≡ j.skew → k ≡ j
same-settings k j a b c =
    let f : ℕ → model.Settings = λ z. record { addresses = z; term = k.term; skew = k.skew } in
    let g : ℕ → model.Settings = λ z. record { addresses = j.addresses; term = z; skew = k.skew } in
    let h : ℕ → model.Settings = λ z. record { addresses = j.addresses; term = j.term; skew = z } in
    ap f a ∙ ap g b ∙ ap h c

pub settings-same : (k j : model.Settings) → differ (Some k) (Some j) ≡ false → k ≡ j
settings-same k j e =
    let n : (eqb k.addresses j.addresses && (eqb k.term j.term && eqb k.skew j.skew)) ≡ true = not-false _ e in
    let p : (eqb k.addresses j.addresses ≡ true) × ((eqb k.term j.term && eqb k.skew j.skew) ≡ true) = and_parts _ _ n in
    let q : (eqb k.term j.term ≡ true) × (eqb k.skew j.skew ≡ true) = and_parts _ _ p.1 in
    same-settings k j (eqb-true _ _ p.0) (eqb-true _ _ q.0) (eqb-true _ _ q.1)

-- what a party knows after an event that breaks nothing is what was taken first
pub known-first : (o n : Option model.Settings) (k : model.Settings) → n ≡ Some k → differ (or_first o n) n ≡ false → or_first o n ≡ Some k
known-first None n k e d = e
known-first (Some j) n k e d = ap (λ (z : model.Settings). Some z) (settings-same j k (subst (λ (z : Option model.Settings). differ (Some j) z ≡ false) e d))

-- NUMBERS
pub numbers_apart : (x : Parties) (i j n : ℕ) → clash x i j ≡ false → (x.clients i).state.own ≡ Some n → (x.clients j).state.own ≡ Some n → j ≡ i
numbers_apart x i j n e p q =
    elim (cases_eq j i) [
      | inl s ↦ s
      | inr d ↦
          let b : not (eqb j i) ≡ true = ap not (ne_eqb j i d) in
          let c : same_number (x.clients i).state.own (x.clients j).state.own ≡ true =
          ap (λ (z : Option ℕ). same_number z (x.clients j).state.own) p ∙ ap (λ (z : Option ℕ). same_number (Some n) z) q ∙ eq-eqb n n refl in
          absurd (both_ways _ e (and_both (not (eqb j i)) _ b c))
    ]
  where
    and_both : (a b : Bool) → a ≡ true → b ≡ true → (a && b) ≡ true
    and_both true b e f = f
    and_both false b e f = e

-- MESSAGES that were sent
pub request-same : (r q : asked.Request) → same_request r q ≡ true → r ≡ q
request-same r q e =
    let p : (eqb r.client q.client ≡ true) × ((eqb r.nonce q.nonce && eqb r.preferred q.preferred) ≡ true) = and_parts _ _ e in
    let s : (eqb r.nonce q.nonce ≡ true) × (eqb r.preferred q.preferred ≡ true) = and_parts _ _ p.1 in
    let a : r.client ≡ q.client = eqb-true _ _ p.0 in
    let b : r.nonce ≡ q.nonce = eqb-true _ _ s.0 in
    let c : r.preferred ≡ q.preferred = eqb-true _ _ s.1 in
    let f : ℕ → asked.Request = λ z. record { client = z; nonce = r.nonce; preferred = r.preferred } in
    let g : ℕ → asked.Request = λ z. record { client = q.client; nonce = z; preferred = r.preferred } in
    let h : ℕ → asked.Request = λ z. record { client = q.client; nonce = q.nonce; preferred = z } in
    ap f a ∙ ap g b ∙ ap h c

pub grant-same : (g h : given.Grant) → same_grant g h ≡ true → g ≡ h
grant-same g h e =
    let p : (eqb g.client h.client ≡ true) × ((eqb g.nonce h.nonce && eqb g.address h.address) ≡ true) = and_parts _ _ e in
    let s : (eqb g.nonce h.nonce ≡ true) × (eqb g.address h.address ≡ true) = and_parts _ _ p.1 in
    let a : g.client ≡ h.client = eqb-true _ _ p.0 in
    let b : g.nonce ≡ h.nonce = eqb-true _ _ s.0 in
    let c : g.address ≡ h.address = eqb-true _ _ s.1 in
    let f₁ : ℕ → given.Grant = λ z. record { client = z; nonce = g.nonce; address = g.address } in
    let f₂ : ℕ → given.Grant = λ z. record { client = h.client; nonce = z; address = g.address } in
    let f₃ : ℕ → given.Grant = λ z. record { client = h.client; nonce = h.nonce; address = z } in
    ap f₁ a ∙ ap f₂ b ∙ ap f₃ c

-- LEADS
-- a lead that has all that another has
pub record Wider (d d' : Lead) : Type 0 where
  pub least : d'.least ≤ d.least
  pub most : d.most ≤ d'.most

pub wider_self : (d : Lead) → Wider d d
wider_self d = record { least = omega arith; most = omega arith }

abbrev pub At : Lead → (t h : ℕ) → Type 0
At d t h = (d.least + h ≤ t + 2 ^ 63) × (t + 2 ^ 63 ≤ d.most + h)

pub wider_at : (d d' : Lead) (t h : ℕ) → Wider d d' → At d t h → At d' t h
wider_at d d' t h w a = (omega (arith, w.least, a.0), omega (arith, w.most, a.1))

module _ (x : Parties) (ls : ℕ → Option Lead) (i : ℕ) where
  abbrev t : ℕ
  t = (x.clients i).state.holder.clock

  abbrev h : ℕ
  h = x.server.server.clock

  abbrev pub Noted : Option Lead → Option Lead → Type 0
  Noted o o' = ((d : Lead) → o ≡ Some d → (d' : Lead) × (o' ≡ Some d') × Wider d d')

  widens : (o : Option Lead) → Noted o (Some (widened (lead t h) o))
  widens None d e = absurd (none-some d e)
  widens (Some b) d e =
      let s : b ≡ d = same_Some b d e in (
        widened (lead t h) (Some b),
        refl,
        record {
          least = subst (λ (z : Lead). min b.least (lead t h) ≤ z.least) s (min-le_left b.least (lead t h));
          most = subst (λ (z : Lead). z.most ≤ max b.most (lead t h)) s (le-max_left b.most (lead t h));
        },
      )

  -- noting loses nothing
  pub noted_wider : Noted (ls i) (noted x ls i)
  noted_wider = cond_both (both_up x i) _ (ls i) (λ o. Noted (ls i) o) (λ e. widens (ls i)) (λ e d f. (d, f, wider_self d))

  has_now : h < 2 ^ 63 → (o : Option Lead) → At (widened (lead t h) o) t h
  has_now l None = (omega arith, omega arith)
  has_now l (Some b) = (omega (arith, min-le_right b.least (lead t h)), omega (arith, le-max_right b.most (lead t h)))

  -- and has the moment of now
  pub noted_now : h < 2 ^ 63 → both_up x i ≡ true → (d : Lead) × (noted x ls i ≡ Some d) × At d t h
  noted_now l e = (widened (lead t h) (ls i), cond-true (both_up x i) _ (ls i) e, has_now l (ls i))

-- within the skew, where settings are known
pub narrow : (k : model.Settings) (s : Option model.Settings) (ls : ℕ → Option Lead) → ((j : model.Settings) → s ≡ Some j → j ≡ k) → apart s ls ≡ false →
    (i : ℕ) → i < places → is_some s ≡ true → (d : Lead) → ls i ≡ Some d → d.most ≤ d.least + k.skew
narrow k None ls same e i l known d f = absurd (both_ways false refl known)
narrow k (Some j) ls same e i l known d f =
    let a : wide j.skew (ls i) ≡ false = none_below (λ i. wide j.skew (ls i)) places e i l in
    let b : wide j.skew (Some d) ≡ false = subst (λ (z : Option Lead). wide j.skew z ≡ false) f a in
    let c : d.most ≤ d.least + j.skew = ltb-false (d.least + j.skew) d.most b in
    subst (λ (z : model.Settings). d.most ≤ d.least + z.skew) (same j refl) c
