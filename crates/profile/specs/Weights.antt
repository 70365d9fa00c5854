-- What a profile means.
use Rattle.std.specs.Prelude.{ℕ, ◌≤◌, Some, None, Option}

-- a weight is at most 1,000,000
abbrev pub Light : Option ℕ → Type 0
Light None = Unit {0}
Light (Some w) = w ≤ 1000000

-- for every hour a weight, or none
pub record Weights : Type 0 where
  pub weight : ℕ → Option ℕ
  pub light : (h : ℕ) → Light (weight h)
