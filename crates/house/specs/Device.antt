-- Why a device can't be used, by what the journal refused of it.
-- Assumes nothing.
use Rattle.journal.specs.declared.state.OpenError.{OpenError}
use Rattle.journal.specs.declared.state.OpenError.TheVariants.{WrongLength, NoRoom}
use Rattle.house.specs.declared.device.Unusable.{Unusable}
use Rattle.house.specs.declared.device.Unusable.TheVariants as unusable

abbrev pub unusable_by : OpenError → Unusable
unusable_by WrongLength = unusable.WrongLength
unusable_by NoRoom = unusable.NoMemory
