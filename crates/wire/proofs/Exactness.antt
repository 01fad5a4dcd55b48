-- A byte string that is read as a message is that message's own.
use Rattle.std.proofs.Common.{◌≡◌, ℕ, ◌+◌, ◌<◌, eqb, List, [], ◌∷◌, ◌++◌, length, get_or, take, drop, Some, None, Ok, Option, sym, refl, ap, ◌∙◌, ap₂, arith}
use Rattle.std.proofs.lemmas.List.{append-nil, drop_all, drop-drop, drop_more, take-append-drop}
use Rattle.std.proofs.lemmas.Bool.{cond_both, eqb-true}
use Rattle.std.specs.List.{find}
use Rattle.std.specs.Option.{option_map}
use Rattle.lease.specs.declared.fault.Fault as lease
use Rattle.lease.specs.declared.fault.Fault.TheVariants.{Malformed}
use Rattle.lease.specs.Fault as fault
use Rattle.wire.specs.declared.kind.Kind.{Kind}
use Rattle.wire.specs.declared.kind.Kind.TheVariants as k
use Rattle.wire.specs.declared.message.Message.{Message}
use Rattle.wire.specs.declared.message.Message.TheVariants.{Fault}
use Rattle.wire.specs.declared.reader.Reader.{Reader}
use Rattle.wire.specs.Decode.{answered, decoded}
use Rattle.wire.specs.Kind.{table, kind_of, kinds}
use Rattle.wire.specs.Laws.{Taken}
use Rattle.wire.specs.Meant.{Meant}
use Rattle.wire.specs.Message.{encoded}
use Rattle.wire.specs.Read.{read, read_as, fields_at}
use Rattle.wire.proofs.Digits.{Bytes, own2, own4, own8}
use Rattle.wire.proofs.Judgement.{by_judgement, refusal}
use Rattle.wire.proofs.Readings.{same_some}

-- what is found by its number has it
found : {X : Type 0} (number : X → ℕ) (n : ℕ) (xs : List X) (x : X) → find (λ y. eqb n (number y)) xs ≡ Some x → n ≡ number x
found number n [] x e = absurd (cc)
found number n (y ∷ ys) x e =
    cond_both (eqb n (number y)) (Some y) (find (λ z. eqb n (number z)) ys) (λ q. q ≡ Some x → n ≡ number x) (λ t f. eqb-true n (number y) t ∙ ap number (same_some y x f)) (λ t f. found number n ys x f) e

-- a list by what stands at a place
headed : (bs : List ℕ) (n : ℕ) (rest : List ℕ) → 0 < length bs → get_or bs 0 0 ≡ n → drop 1 bs ≡ rest → bs ≡ n ∷ rest
headed bs n rest l e d = drop_more bs 0 0 l ∙ ap₂ (λ (m : ℕ) (t : List ℕ). m ∷ t) e d

field : (n i : ℕ) (bs own rest : List ℕ) → own ≡ take n (drop i bs) → drop (i + n) bs ≡ rest → drop i bs ≡ own ++ rest
field n i bs own rest e d =
    sym (take-append-drop n (drop i bs)) ∙ ap₂ (λ (s t : List ℕ). s ++ t) (sym e) (drop-drop n i bs ∙ d)

last : (n i : ℕ) (bs own : List ℕ) → own ≡ take n (drop i bs) → i + n ≡ length bs → drop i bs ≡ own
last n i bs own e l = field n i bs own [] e (drop_all (i + n) bs (omega arith)) ∙ append-nil own

fault_within : (o : Option lease.Fault) (m : Message) → option_map Fault o ≡ Some m → (f : lease.Fault) × (o ≡ Some f) × (Fault f ≡ m)
fault_within None m e = absurd (cc)
fault_within (Some f) m e = (f, refl, same_some (Fault f) m e)

by_fields : (x : Kind) (bs : List ℕ) → Bytes bs → length bs ≡ (table x).size → get_or bs 0 0 ≡ (table x).number → (m : Message) → fields_at x bs ≡ Some m → bs ≡ encoded m
by_fields k.Request bs b l e m h = headed bs _ _ (omega arith) e (field 4 1 bs _ _ (own4 bs 1 b (omega arith)) (field 8 5 bs _ _ (own8 bs 5 b (omega arith)) (last 2 13 bs _ (own2 bs 13 b (omega arith)) (sym l)))) ∙ ap encoded (same_some _ m h)
by_fields k.Grant bs b l e m h = headed bs _ _ (omega arith) e (field 4 1 bs _ _ (own4 bs 1 b (omega arith)) (field 8 5 bs _ _ (own8 bs 5 b (omega arith)) (last 2 13 bs _ (own2 bs 13 b (omega arith)) (sym l)))) ∙ ap encoded (same_some _ m h)
by_fields k.Settings bs b l e m h = headed bs _ _ (omega arith) e (field 2 1 bs _ _ (own2 bs 1 b (omega arith)) (field 4 3 bs _ _ (own4 bs 3 b (omega arith)) (last 2 7 bs _ (own2 bs 7 b (omega arith)) (sym l)))) ∙ ap encoded (same_some _ m h)
by_fields k.Tick bs b l e m h = headed bs _ _ (omega arith) e (drop_all 1 bs (omega arith)) ∙ ap encoded (same_some _ m h)
by_fields k.Crash bs b l e m h = headed bs _ _ (omega arith) e (drop_all 1 bs (omega arith)) ∙ ap encoded (same_some _ m h)
by_fields k.Restart bs b l e m h = headed bs _ _ (omega arith) e (last 8 1 bs _ (own8 bs 1 b (omega arith)) (sym l)) ∙ ap encoded (same_some _ m h)
by_fields k.OwnNumber bs b l e m h = headed bs _ _ (omega arith) e (last 4 1 bs _ (own4 bs 1 b (omega arith)) (sym l)) ∙ ap encoded (same_some _ m h)
by_fields k.Nonce bs b l e m h = headed bs _ _ (omega arith) e (last 8 1 bs _ (own8 bs 1 b (omega arith)) (sym l)) ∙ ap encoded (same_some _ m h)
by_fields k.InUse bs b l e m h = headed bs _ _ (omega arith) e (field 2 1 bs _ _ (own2 bs 1 b (omega arith)) (last 8 3 bs _ (own8 bs 3 b (omega arith)) (sym l))) ∙ ap encoded (same_some _ m h)
by_fields k.NoAddress bs b l e m h = headed bs _ _ (omega arith) e (drop_all 1 bs (omega arith)) ∙ ap encoded (same_some _ m h)
by_fields k.Fault bs b l e m h =
    let (f, is, same) = fault_within (fault.fault_of (get_or bs 1 0)) m h in
    headed bs _ _ (omega arith) e (drop_more bs 1 0 (omega arith) ∙ ap₂ (λ (n : ℕ) (t : List ℕ). n ∷ t) (found fault.number (get_or bs 1 0) fault.faults f is) (drop_all 2 bs (omega arith))) ∙ ap encoded same

by_kind : (o : Option Kind) (bs : List ℕ) → kind_of (get_or bs 0 0) ≡ o → Bytes bs → (m : Message) → read_as o bs ≡ Some m → bs ≡ encoded m
by_kind None bs e b m h = absurd (cc)
by_kind (Some x) bs e b m h =
    cond_both (eqb (length bs) (table x).size) (fields_at x bs) None (λ q. q ≡ Some m → bs ≡ encoded m) (λ t f. by_fields x bs b (eqb-true (length bs) (table x).size t) (found (λ (k : Kind). (table k).number) (get_or bs 0 0) kinds x e) m f) (λ t f. absurd (cc)) h

by_answer : (reader : Reader) (n : Option ℕ) (o : Option Message) (m : Message) → answered reader n o ≡ Ok m → (o ≡ Some m) × Meant reader n m
by_answer reader n None m e = absurd (refusal Malformed m e)
by_answer reader n (Some a) m e = by_judgement reader n a m e

pub own_bytes : (bs : List ℕ) → Bytes bs → (m : Message) → read bs ≡ Some m → bs ≡ encoded m
unfolding read
own_bytes bs b m e = by_kind (kind_of (get_or bs 0 0)) bs refl b m e

pub exact : (reader : Reader) (n : Option ℕ) (bs : List ℕ) → Bytes bs → (m : Message) → decoded reader n bs ≡ Ok m → Taken reader n bs m
exact reader n bs b m e =
    let (is, meant) = by_answer reader n (read bs) m e in
    record { own_bytes = own_bytes bs b m is; meant = meant }
