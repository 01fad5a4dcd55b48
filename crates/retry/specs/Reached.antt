-- Runs that meet the premises of the laws on a client's requests, and reach their bounds.
-- Assumes nothing. Lists of events begin with the newest.
use Rattle.std.specs.Prelude.{◌≡◌, List, [], ◌∷◌, ◌++◌, replicate, Some, None}
use Rattle.retry.specs.Run.{Event, Ticks, Asks, Takes, client, Lawful}
use Rattle.retry.specs.Pacing.{Never, tarries}

-- asks at once, and again 4 ticks later
abbrev pub retried : List Event
retried = Asks ∷ (Ticks ∷ (Ticks ∷ (Ticks ∷ (Ticks ∷ (Asks ∷ [])))))

-- takes a grant for 60 ticks
abbrev pub lent : List Event
lent = Takes 0 60 ∷ (Asks ∷ [])

-- and uses it to its last tick
abbrev pub used : List Event
used = replicate 60 Ticks ++ lent

-- renews then, and loses its address one tick later: it asks at once
abbrev pub lost : List Event
lost = Asks ∷ (Ticks ∷ (Asks ∷ used))

pub record Reached : Type 0 where
  pub retries : Lawful retried
  pub retries_promptly : Never tarries [] retried
  pub retries_at : (client retried).clock ≡ 4
  pub loses : Lawful lost
  pub renews_promptly : Never tarries lent (replicate 60 Ticks)
  pub renews_at : (client used).clock ≡ 60
  pub uses : (client used).uses ≡ Some 60
  pub asks_at : (client lost).clock ≡ 61
  pub none : (client lost).uses ≡ None
