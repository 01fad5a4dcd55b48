-- What a journal in memory tells of its reading.
use Rattle.std.proofs.Common.{◌≡◌, refl}
use Rattle.journal.specs.declared.journal.Journal.{Journal}
use Rattle.journal.specs.declared.state.Found.{Found}
use Rattle.journal.specs.declared.state.Found.TheVariants as found
use Rattle.journal.specs.Device.{Side}
use Rattle.journal.specs.Image.{choice_from, found_in}
use Rattle.journal.specs.Memory.{choice_of, found_of}

pub found_chosen : (j : Journal) → found_of j ≡ found_in (choice_of j)
found_chosen j = by_kind j.reading.found j.reading.side
  where
    by_kind : (f : Found) (s : Side) → f ≡ found_in (choice_from f s)
    by_kind found.New s = refl
    by_kind found.Lost s = refl
    by_kind found.Table s = refl
