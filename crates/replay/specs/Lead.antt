-- The lead that a lead in memory stands for.
-- Assumes nothing.
use Rattle.system.specs.Watch as watch
use Rattle.replay.specs.declared.lead.Lead.{Lead}

abbrev pub lead_of : Lead → watch.Lead
lead_of d = record { least = d.least; most = d.most }
