-- Sharing a whole number over weights, by running sums.
use Rattle.std.specs.Prelude.{◌≡◌, ℕ, zero, suc, ◌+◌, ◌-◌, ◌*◌, ◌/◌, ◌<◌}

-- the sum of w at the places below n
abbrev pub below : (ℕ → ℕ) → ℕ → ℕ
below w zero = 0
below w (suc n) = below w n + w n

-- what place i gets of R, shared over the n weights w, whose running sum rises there from below w i to below w (suc i)
abbrev pub portion : ℕ → (ℕ → ℕ) → ℕ → ℕ → ℕ
portion R w n i = (R * (below w i + w i)) / below w n - (R * below w i) / below w n

-- the portions add up to what was shared
abbrev pub AddsUp : Type 0
AddsUp = (R : ℕ) (w : ℕ → ℕ) (n : ℕ) → 0 < below w n → below (portion R w n) n ≡ R

-- each portion is less than one unit from its exact share
abbrev pub NearlyExact : Type 0
NearlyExact = (R : ℕ) (w : ℕ → ℕ) (n i : ℕ) → 0 < below w n →
    (portion R w n i * below w n < R * w i + below w n) × (R * w i < portion R w n i * below w n + below w n)
