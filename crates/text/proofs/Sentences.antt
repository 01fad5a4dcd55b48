-- Each message is said back by its sentence.
use Rattle.std.proofs.Common.{◌≡◌, ℕ, ◌+◌, ◌≤◌, List, [], ◌∷◌, length, get_or, drop, take, map, slice_set, Some, Ok, decimal, Result, sym, refl, ap, ◌∙◌, subst, arith}
use Rattle.std.specs.Option.{option_map}
use Rattle.lease.specs.declared.fault.Fault as lease
use Rattle.lease.specs.declared.fault.Fault.TheVariants.{Malformed, BadAddress, OtherClient, NotWaiting, TooLate, NoneFree, BadSettings, TableLost, CountExhausted}
use Rattle.lease.specs.Fault.{fault_of, number}
use Rattle.wire.specs.declared.message.Message.{Message}
use Rattle.wire.specs.declared.message.Message.TheVariants as m
use Rattle.wire.specs.Laws.{Fits}
use Rattle.wire.specs.Message.{encoded}
use Rattle.text.specs.declared.fault.Mistake.{Mistake}
use Rattle.text.specs.declared.field.Field.{Field}
use Rattle.text.specs.declared.field.Field.TheVariants as x
use Rattle.text.specs.declared.form.Form.{Form}
use Rattle.text.specs.declared.kind.Kind.{Kind}
use Rattle.text.specs.declared.kind.Kind.TheVariants as k
use Rattle.text.specs.declared.kind.Verb.TheVariants as verb
use Rattle.text.specs.declared.sentence.Sentence.{Sentence}
use Rattle.text.specs.declared.sentence.Spoken.TheVariants.{Say}
use Rattle.text.specs.Entry.{entry_bytes}
use Rattle.text.specs.Kind.{fields}
use Rattle.text.specs.Sentence.{figures, said}
use Rattle.text.specs.Speech.{Words, figure_at}
use Rattle.text.proofs.Figures.{figures_on, with_figure, stepwise}
use Rattle.text.proofs.Saying.{Says, In, word_at, figure_back, said_by}
use Rattle.text.proofs.Spelling.{Fairs}
use Rattle.text.proofs.Numerals.{fair_decimal}

-- the words behind the kind's
abbrev pub said_args : Sentence → Words
said_args s = map decimal (take (length (fields s.kind)) s.figures)

abbrev sentence : Kind → ℕ → ℕ → ℕ → Sentence
sentence k a b c = record { kind = k; figures = figures a b c }

same-say : (s t : Sentence) → Say s ≡ Say t → s ≡ t
same-say s t e = cc

pub record Back (mes : Message) (t : Sentence) : Type 0 where
  pub says : (f : Form) (who : ℕ) → Says f who (verb.Say t.kind) (said_args t) (entry_bytes f who (encoded mes))
  pub fairs : Fairs (said_args t)

along : (mes : Message) (s t : Sentence) → Say s ≡ Say t → Back mes s → Back mes t
along mes s t e b = subst (λ (u : Sentence). Back mes u) (same-say s t e) b

-- the number behind the verb at the place of this one
number_at : (x : Field) (q j n : ℕ) (ws args : Words) → drop q ws ≡ args → get_or args j [] ≡ decimal n → In x n → figure_at x (q + j) ws ≡ Ok n
number_at x q j n ws args e g i = figure_back x (q + j) n ws (word_at q j ws args e ∙ g) i

next : (i q n : ℕ) (ws : Words) (x : Field) (fs : List Field) (ns : List ℕ) → figure_at x (q + i) ws ≡ Ok n → figures_on i q ws (x ∷ fs) (Ok ns) ≡ figures_on (i + 1) q ws fs (Ok (slice_set ns i n))
next i q n ws x fs ns e = ap (λ (r : Result ℕ Mistake). figures_on (i + 1) q ws fs (with_figure i ns r)) e

one : (q a : ℕ) (ws : Words) (x : Field) → drop q ws ≡ decimal a ∷ [] → In x a → figures_on 0 q ws (x ∷ []) (Ok (figures 0 0 0)) ≡ Ok (figures a 0 0)
one q a ws x d i = next 0 q a ws x [] (figures 0 0 0) (number_at x q 0 a ws _ d refl i)

two : (q a b : ℕ) (ws : Words) (x y : Field) → drop q ws ≡ decimal a ∷ decimal b ∷ [] → In x a → In y b → figures_on 0 q ws (x ∷ y ∷ []) (Ok (figures 0 0 0)) ≡ Ok (figures a b 0)
two q a b ws x y d i j =
    next 0 q a ws x (y ∷ []) (figures 0 0 0) (number_at x q 0 a ws _ d refl i) ∙ next 1 q b ws y [] (figures a 0 0) (number_at y q 1 b ws _ d refl j)

three : (q a b c : ℕ) (ws : Words) (x y z : Field) → drop q ws ≡ decimal a ∷ decimal b ∷ decimal c ∷ [] → In x a → In y b → In z c → figures_on 0 q ws (x ∷ y ∷ z ∷ []) (Ok (figures 0 0 0)) ≡ Ok (figures a b c)
three q a b c ws x y z d i j k =
    next 0 q a ws x (y ∷ z ∷ []) (figures 0 0 0) (number_at x q 0 a ws _ d refl i)
    ∙ (next 1 q b ws y (z ∷ []) (figures a 0 0) (number_at y q 1 b ws _ d refl j) ∙ next 2 q c ws z [] (figures a b 0) (number_at z q 2 c ws _ d refl k))

numbered : (f : lease.Fault) → (1 ≤ number f) × (number f ≤ 9) × (fault_of (number f) ≡ Some f)
numbered Malformed = (omega arith, omega arith, refl)
numbered BadAddress = (omega arith, omega arith, refl)
numbered OtherClient = (omega arith, omega arith, refl)
numbered NotWaiting = (omega arith, omega arith, refl)
numbered TooLate = (omega arith, omega arith, refl)
numbered NoneFree = (omega arith, omega arith, refl)
numbered BadSettings = (omega arith, omega arith, refl)
numbered TableLost = (omega arith, omega arith, refl)
numbered CountExhausted = (omega arith, omega arith, refl)

pub sentence_back : (mes : Message) → Fits mes → (t : Sentence) → said mes ≡ Say t → Back mes t
sentence_back (m.Request r) fits t e =
    let a = r.client in
    let b = r.nonce in
    let c = r.preferred in
    let p : In x.Client a = record { least = omega arith; most = omega (arith, fits.0); fits = omega (arith, fits.0) } in
    let q : In x.Nonce b = record { least = omega arith; most = omega (arith, fits.1); fits = omega (arith, fits.1) } in
    let s : In x.Preferred c = record { least = omega arith; most = omega (arith, fits.2); fits = omega (arith, fits.2) } in
    along (m.Request r) (sentence k.Request a b c) t e record {
      says = λ f who. said_by k.Request (figures a b c) (m.Request r) f who _ (λ i ws d. record { numbers = sym (stepwise k.Request i ws) ∙ three i a b c ws x.Client x.Nonce x.Preferred d p q s; last = word_at i 3 ws _ d }) refl;
      fairs = (fair_decimal a p.fits, (fair_decimal b q.fits, (fair_decimal c s.fits, tt)));
    }
sentence_back (m.Grant r) fits t e =
    let a = r.client in
    let b = r.nonce in
    let c = r.address in
    let p : In x.Client a = record { least = omega arith; most = omega (arith, fits.0); fits = omega (arith, fits.0) } in
    let q : In x.Nonce b = record { least = omega arith; most = omega (arith, fits.1); fits = omega (arith, fits.1) } in
    let s : In x.Address c = record { least = omega arith; most = omega (arith, fits.2); fits = omega (arith, fits.2) } in
    along (m.Grant r) (sentence k.Grant a b c) t e record {
      says = λ f who. said_by k.Grant (figures a b c) (m.Grant r) f who _ (λ i ws d. record { numbers = sym (stepwise k.Grant i ws) ∙ three i a b c ws x.Client x.Nonce x.Address d p q s; last = word_at i 3 ws _ d }) refl;
      fairs = (fair_decimal a p.fits, (fair_decimal b q.fits, (fair_decimal c s.fits, tt)));
    }
sentence_back (m.Settings a b c) fits t e =
    let p : In x.Addresses a = record { least = omega arith; most = omega (arith, fits.0); fits = omega (arith, fits.0) } in
    let q : In x.Term b = record { least = omega arith; most = omega (arith, fits.1); fits = omega (arith, fits.1) } in
    let s : In x.Skew c = record { least = omega arith; most = omega (arith, fits.2); fits = omega (arith, fits.2) } in
    along (m.Settings a b c) (sentence k.Settings a b c) t e record {
      says = λ f who. said_by k.Settings (figures a b c) (m.Settings a b c) f who _ (λ i ws d. record { numbers = sym (stepwise k.Settings i ws) ∙ three i a b c ws x.Addresses x.Term x.Skew d p q s; last = word_at i 3 ws _ d }) refl;
      fairs = (fair_decimal a p.fits, (fair_decimal b q.fits, (fair_decimal c s.fits, tt)));
    }
sentence_back m.Tick fits t e = absurd (let z : ◌≡◌ {A = ℕ} 0 1 = cc in omega arith)
sentence_back m.Crash fits t e =
    along m.Crash (sentence k.Crash 0 0 0) t e record {
      says = λ f who. said_by k.Crash (figures 0 0 0) m.Crash f who [] (λ i ws d. record { numbers = refl; last = word_at i 0 ws [] d }) refl;
      fairs = tt;
    }
sentence_back (m.Restart a) fits t e =
    let p : In x.Clock a = record { least = omega arith; most = omega (arith, fits); fits = fits } in
    along (m.Restart a) (sentence k.Restart a 0 0) t e record {
      says = λ f who. said_by k.Restart (figures a 0 0) (m.Restart a) f who _ (λ i ws d. record { numbers = sym (stepwise k.Restart i ws) ∙ one i a ws x.Clock d p; last = word_at i 1 ws _ d }) refl;
      fairs = (fair_decimal a fits, tt);
    }
sentence_back (m.OwnNumber a) fits t e =
    let p : In x.Client a = record { least = omega arith; most = omega (arith, fits); fits = omega (arith, fits) } in
    along (m.OwnNumber a) (sentence k.Number a 0 0) t e record {
      says = λ f who. said_by k.Number (figures a 0 0) (m.OwnNumber a) f who _ (λ i ws d. record { numbers = sym (stepwise k.Number i ws) ∙ one i a ws x.Client d p; last = word_at i 1 ws _ d }) refl;
      fairs = (fair_decimal a p.fits, tt);
    }
sentence_back (m.Nonce a) fits t e =
    let p : In x.Nonce a = record { least = omega arith; most = omega (arith, fits); fits = fits } in
    along (m.Nonce a) (sentence k.Nonce a 0 0) t e record {
      says = λ f who. said_by k.Nonce (figures a 0 0) (m.Nonce a) f who _ (λ i ws d. record { numbers = sym (stepwise k.Nonce i ws) ∙ one i a ws x.Nonce d p; last = word_at i 1 ws _ d }) refl;
      fairs = (fair_decimal a fits, tt);
    }
sentence_back (m.InUse a b) fits t e =
    let p : In x.Address a = record { least = omega arith; most = omega (arith, fits.0); fits = omega (arith, fits.0) } in
    let q : In x.Until b = record { least = omega arith; most = omega (arith, fits.1); fits = omega (arith, fits.1) } in
    along (m.InUse a b) (sentence k.InUse a b 0) t e record {
      says = λ f who. said_by k.InUse (figures a b 0) (m.InUse a b) f who _ (λ i ws d. record { numbers = sym (stepwise k.InUse i ws) ∙ two i a b ws x.Address x.Until d p q; last = word_at i 2 ws _ d }) refl;
      fairs = (fair_decimal a p.fits, (fair_decimal b q.fits, tt));
    }
sentence_back m.NoAddress fits t e =
    along m.NoAddress (sentence k.NoAddress 0 0 0) t e record {
      says = λ f who. said_by k.NoAddress (figures 0 0 0) m.NoAddress f who [] (λ i ws d. record { numbers = refl; last = word_at i 0 ws [] d }) refl;
      fairs = tt;
    }
sentence_back (m.Fault g) fits t e =
    let (low, high, back) = numbered g in
    let p : In x.Fault (number g) = record { least = low; most = high; fits = omega (arith, high) } in
    along (m.Fault g) (sentence k.Fault (number g) 0 0) t e record {
      says = λ f who. said_by k.Fault (figures (number g) 0 0) (m.Fault g) f who _ (λ i ws d. record { numbers = sym (stepwise k.Fault i ws) ∙ one i (number g) ws x.Fault d p; last = word_at i 1 ws _ d }) (ap (option_map m.Fault) back);
      fairs = (fair_decimal (number g) p.fits, tt);
    }
