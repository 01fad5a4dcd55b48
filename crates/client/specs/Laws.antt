-- What holds of each single step of a client.
-- Assumes nothing.
use Rattle.std.specs.Prelude.{◌≡◌, ℕ, List, ◌++◌}
use Rattle.client.specs.State.{in_use}
use Rattle.client.specs.Client.{Client, lent, hears}
use Rattle.client.specs.Telling.{told}
use Rattle.client.specs.Nonces.{requests, nonces}
use Rattle.client.specs.Refines.{Refines}

-- tells: whoever knew which address was in use knows it after the step from what was put out.
-- in_order: the oldest nonces are used first, and each once. refines: it is a step of the lending model.
pub record Laws (bs : List ℕ) (c : Client) : Type 0 where
  pub tells : told (hears bs c).says (in_use c.state) ≡ in_use (hears bs c).client.state
  pub in_order : c.nonces ++ lent bs ≡ nonces (requests (hears bs c).says) ++ (hears bs c).client.nonces
  pub refines : Refines c (hears bs c)
