-- What a crash leaves of an append.
-- Assumes of a write that is cut: its place has what was there, the record, or bytes that fit no sum (zeros or others); places written before it have their records.
use Rattle.std.specs.Prelude.{◌≡◌, ℕ, zero, suc, Bool, false, List, [], ◌∷◌, nat_le}
use Rattle.journal.specs.Place.{Blank, Torn, Holds}
use Rattle.journal.specs.Row.{whole}
use Rattle.journal.specs.Device.{Side, Device}
use Rattle.journal.specs.Append.{Write, put}

pub data Cut : Type 0 where
  Untouched : Cut
  Whole : Cut
  Tears : Cut
  Zeroes : Cut

abbrev pub cut_write : Cut → Write → Device → Device
cut_write Untouched w d = d
cut_write Whole w d = put w.side w.place (Holds w.what) d
cut_write Tears w d = put w.side w.place Torn d
cut_write Zeroes w d = put w.side w.place Blank d

-- a crash after `i` whole writes, that cut the next, if there is one
unfoldable pub cut_at : ℕ → Cut → List Write → Device → Device
cut_at i c [] d = d
cut_at zero c (w ∷ ws) d = cut_write c w d
cut_at (suc i) c (w ∷ ws) d = cut_at i c ws (put w.side w.place (Holds w.what) d)

-- how many writes left their record
abbrev pub done : ℕ → Cut → ℕ
done i Untouched = i
done i Whole = suc i
done i Tears = i
done i Zeroes = i

-- whether the last of `m` writes left its record
abbrev pub lands : ℕ → Cut → ℕ → Bool
lands i c m = nat_le m (done i c)

-- what damage leaves: neither row whole
abbrev pub Damaged : ℕ → Device → Type 0
Damaged R d = (s : Side) → whole R (d s) ≡ false
