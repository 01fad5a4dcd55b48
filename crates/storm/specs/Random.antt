-- The number that SplitMix64 gives as it comes to a state: the first from the state before it.
-- Assumes nothing.
use Rattle.std.specs.Prelude.{ℕ, ◌+◌, ◌-◌, ◌%◌, ◌^◌}
use Rattle.rand_xoshiro.specs.SplitMix64.{mix_u64}

abbrev pub before : ℕ → ℕ
before s = (s + (2 ^ 64 - 0x9e3779b97f4a7c15)) % 2 ^ 64

abbrev pub mixed : ℕ → ℕ
mixed s = (mix_u64 (before s)).0
