-- The numbers of a message that was read fit their widths.
use Rattle.std.proofs.Common.{◌≡◌, ℕ, eqb, List, length, get_or, Some, None, Option, subst, arith}
use Rattle.std.proofs.lemmas.Bool.{cond_both}
use Rattle.std.specs.Option.{option_map}
use Rattle.lease.specs.declared.fault.Fault as lease
use Rattle.lease.specs.Fault.{fault_of}
use Rattle.wire.specs.declared.kind.Kind.{Kind}
use Rattle.wire.specs.declared.kind.Kind.TheVariants as k
use Rattle.wire.specs.declared.message.Message.{Message}
use Rattle.wire.specs.declared.message.Message.TheVariants as m
use Rattle.wire.specs.Kind.{table, kind_of}
use Rattle.wire.specs.Laws.{Fits}
use Rattle.wire.specs.Read.{read, read_as, fields_at}
use Rattle.wire.proofs.Digits.{Bytes, below2, below4, below8}
use Rattle.wire.proofs.Readings.{same_some}

fault_fits : (o : Option lease.Fault) (mes : Message) → option_map m.Fault o ≡ Some mes → Fits mes
fault_fits None mes e = absurd (let z : ◌≡◌ {A = ℕ} 0 1 = cc in omega arith)
fault_fits (Some f) mes e = subst Fits (same_some (m.Fault f) mes e) tt

fits-at : (x : Kind) (bs : List ℕ) → Bytes bs → (mes : Message) → fields_at x bs ≡ Some mes → Fits mes
fits-at k.Request bs b mes e = subst Fits (same_some _ mes e) (below4 bs 1 b, below8 bs 5 b, below2 bs 13 b)
fits-at k.Grant bs b mes e = subst Fits (same_some _ mes e) (below4 bs 1 b, below8 bs 5 b, below2 bs 13 b)
fits-at k.Settings bs b mes e = subst Fits (same_some _ mes e) (below2 bs 1 b, below4 bs 3 b, below2 bs 7 b)
fits-at k.Tick bs b mes e = subst Fits (same_some _ mes e) tt
fits-at k.Crash bs b mes e = subst Fits (same_some _ mes e) tt
fits-at k.Restart bs b mes e = subst Fits (same_some _ mes e) (below8 bs 1 b)
fits-at k.OwnNumber bs b mes e = subst Fits (same_some _ mes e) (below4 bs 1 b)
fits-at k.Nonce bs b mes e = subst Fits (same_some _ mes e) (below8 bs 1 b)
fits-at k.InUse bs b mes e = subst Fits (same_some _ mes e) (below2 bs 1 b, below8 bs 3 b)
fits-at k.NoAddress bs b mes e = subst Fits (same_some _ mes e) tt
fits-at k.Fault bs b mes e = fault_fits (fault_of (get_or bs 1 0)) mes e

fits_as_lem : (o : Option Kind) (bs : List ℕ) → Bytes bs → (mes : Message) → read_as o bs ≡ Some mes → Fits mes
fits_as_lem None bs b mes e = absurd (let z : ◌≡◌ {A = ℕ} 0 1 = cc in omega arith)
fits_as_lem (Some x) bs b mes e =
    cond_both (eqb (length bs) (table x).size) (fields_at x bs) None (λ q. q ≡ Some mes → Fits mes) (λ t h. fits-at x bs b mes h) (λ t h. absurd (let z : ◌≡◌ {A = ℕ} 0 1 = cc in omega arith)) e

pub read_fits : (bs : List ℕ) → Bytes bs → (mes : Message) → read bs ≡ Some mes → Fits mes
unfolding read
read_fits bs b mes e = fits_as_lem (kind_of (get_or bs 0 0)) bs b mes e
