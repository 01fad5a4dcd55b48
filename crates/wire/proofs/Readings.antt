-- Messages and their bytes.
use Rattle.std.proofs.Common.{◌≡◌, ℕ, zero, suc, ◌<◌, ◌≤◌, eqb, List, ◌∷◌, ◌++◌, length, take, Some, None, Option, sym, refl, ap, ◌∙◌, ap₂, arith, length-append}
use Rattle.std.proofs.lemmas.List.{length-take-le}
use Rattle.std.proofs.lemmas.Bool.{cond-false, ne_eqb}
use Rattle.std.specs.Option.{option_map}
use Rattle.lease.specs.declared.fault.Fault as lease
use Rattle.lease.specs.declared.fault.Fault.TheVariants.{Malformed, BadAddress, OtherClient, NotWaiting, TooLate, NoneFree, BadSettings, TableLost, CountExhausted}
use Rattle.lease.specs.Fault as fault
use Rattle.wire.specs.declared.kind.Kind.{Kind}
use Rattle.wire.specs.declared.kind.Kind.TheVariants as k
use Rattle.wire.specs.declared.message.Message.{Message}
use Rattle.wire.specs.declared.message.Message.TheVariants.{Request, Grant, Settings, Tick, Crash, Restart, OwnNumber, Nonce, InUse, NoAddress, Fault}
use Rattle.wire.specs.Decode.{answered}
use Rattle.wire.specs.Kind.{table, kind_of}
use Rattle.wire.specs.Laws.{Fits, Unmistakable}
use Rattle.wire.specs.Message.{kind, fields, encoded}
use Rattle.wire.specs.Numbers.{be2, bytes2, bytes4, bytes8}
use Rattle.wire.specs.Stream.{framed}
use Rattle.wire.specs.Read.{read, read_as, fields_at}
use Rattle.wire.proofs.Digits.{back2, back4, back8}
use Rattle.wire.proofs.Judgement.{to_judgement}

fault_back : (f : lease.Fault) → fault.fault_of (fault.number f) ≡ Some f
fault_back Malformed = refl
fault_back BadAddress = refl
fault_back OtherClient = refl
fault_back NotWaiting = refl
fault_back TooLate = refl
fault_back NoneFree = refl
fault_back BadSettings = refl
fault_back TableLost = refl
fault_back CountExhausted = refl

pub read-encoded : (m : Message) → Fits m → read (encoded m) ≡ Some m
unfolding read bytes2 bytes4 bytes8
read-encoded (Request r) h =
    let P : ℕ → ℕ → ℕ → Option Message = λ a b c. Some (Request (record { client = a; nonce = b; preferred = c })) in
    ap₂ (λ (a b : ℕ). P a b (be2 (bytes2 r.preferred) 0)) (back4 r.client h.0) (back8 r.nonce h.1) ∙ ap (P r.client r.nonce) (back2 r.preferred h.2)
read-encoded (Grant g) h =
    let P : ℕ → ℕ → ℕ → Option Message = λ a b c. Some (Grant (record { client = a; nonce = b; address = c })) in
    ap₂ (λ (a b : ℕ). P a b (be2 (bytes2 g.address) 0)) (back4 g.client h.0) (back8 g.nonce h.1) ∙ ap (P g.client g.nonce) (back2 g.address h.2)
read-encoded (Settings addresses term skew) h =
    let P : ℕ → ℕ → ℕ → Option Message = λ a b c. Some (Settings a b c) in
    ap₂ (λ (a b : ℕ). P a b (be2 (bytes2 skew) 0)) (back2 addresses h.0) (back4 term h.1) ∙ ap (P addresses term) (back2 skew h.2)
read-encoded Tick h = refl
read-encoded Crash h = refl
read-encoded (Restart clock) h = ap (λ (a : ℕ). Some (Restart a)) (back8 clock h)
read-encoded (OwnNumber client) h = ap (λ (a : ℕ). Some (OwnNumber a)) (back4 client h)
read-encoded (Nonce nonce) h = ap (λ (a : ℕ). Some (Nonce a)) (back8 nonce h)
read-encoded (InUse address until) h = ap₂ (λ (a b : ℕ). Some (InUse a b)) (back2 address h.0) (back8 until h.1)
read-encoded NoAddress h = refl
read-encoded (Fault f) h = ap (option_map Fault) (fault_back f)

kind_back : (x : Kind) → kind_of (table x).number ≡ Some x
kind_back k.Request = refl
kind_back k.Grant = refl
kind_back k.Settings = refl
kind_back k.Tick = refl
kind_back k.Crash = refl
kind_back k.Restart = refl
kind_back k.OwnNumber = refl
kind_back k.Nonce = refl
kind_back k.InUse = refl
kind_back k.NoAddress = refl
kind_back k.Fault = refl

pub sized : (m : Message) → length (encoded m) ≡ (table (kind m)).size
unfolding bytes2 bytes4 bytes8
sized (Request r) = refl
sized (Grant g) = refl
sized (Settings addresses term skew) = refl
sized Tick = refl
sized Crash = refl
sized (Restart clock) = refl
sized (OwnNumber client) = refl
sized (Nonce nonce) = refl
sized (InUse address until) = refl
sized NoAddress = refl
sized (Fault f) = refl

longest_kind : (k : Kind) → (table k).size ≤ 15
longest_kind k.Request = omega arith
longest_kind k.Grant = omega arith
longest_kind k.Settings = omega arith
longest_kind k.Tick = omega arith
longest_kind k.Crash = omega arith
longest_kind k.Restart = omega arith
longest_kind k.OwnNumber = omega arith
longest_kind k.Nonce = omega arith
longest_kind k.InUse = omega arith
longest_kind k.NoAddress = omega arith
longest_kind k.Fault = omega arith

pub longest : (m : Message) → length (framed (encoded m)) ≤ 16
longest m = omega (arith, sized m, longest_kind (kind m))

-- a kind's number before a body of another length than the kind's
misfit : (x : Kind) (bs : List ℕ) → (suc (length bs) ≡ (table x).size → ⊥) → read ((table x).number ∷ bs) ≡ None
unfolding read
misfit x bs ne =
    let all : List ℕ = (table x).number ∷ bs in
    ap (λ (o : Option Kind). read_as o all) (kind_back x) ∙ cond-false (eqb (suc (length bs)) (table x).size) (fields_at x all) None (ne_eqb (suc (length bs)) (table x).size ne)

shortened : (m : Message) (n : ℕ) → n < length (encoded m) → read (take n (encoded m)) ≡ None
unfolding read
shortened m zero h = refl
shortened m (suc n) h =
    let l : length (take n (fields m)) ≡ n = length-take-le n (fields m) (omega arith) in
    misfit (kind m) (take n (fields m)) (λ e. let s = sized m in omega arith)

lengthened : (m : Message) (b : ℕ) (bs : List ℕ) → read (encoded m ++ b ∷ bs) ≡ None
lengthened m b bs =
    let l = length-append (fields m) (b ∷ bs) in
    misfit (kind m) (fields m ++ b ∷ bs) (λ e. let s = sized m in omega arith)

pub same_some : {A : Type 0} (a b : A) → Some a ≡ Some b → a ≡ b
same_some a b e = cc

pub unmistakable : (m : Message) → Fits m → Unmistakable m
unmistakable m h =
    record {
      read_back = λ reader n meant. ap (answered reader n) (read-encoded m h) ∙ to_judgement reader n m meant;
      judged_as = λ reader n. ap (answered reader n) (read-encoded m h);
      alone = λ other f e. same_some other m (sym (read-encoded other f) ∙ (ap read e ∙ read-encoded m h));
      cut_short = λ reader n i l. ap (answered reader n) (shortened m i l);
      run_on = λ reader n b bs. ap (answered reader n) (lengthened m b bs);
    }
