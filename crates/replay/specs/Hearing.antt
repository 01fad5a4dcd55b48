-- The event that a message which comes to a party is.
-- Assumes nothing.
use Rattle.system.specs.Parties.{Event}
use Rattle.replay.specs.declared.hearing.Hearing.{Hearing}
use Rattle.replay.specs.Parties.{event_of}

abbrev pub event_in : Hearing → Event
event_in h = event_of h.party h.bytes.now
