-- What a tariff calendar means.
use Rattle.std.specs.Prelude.{ℕ, ◌≤◌}

-- a number of periods, and for every hour one of them, counted from 1
pub record Timetable : Type 0 where
  pub periods : ℕ
  pub period : ℕ → ℕ
  pub some : 1 ≤ periods
  pub few : periods ≤ 3
  pub from_one : (h : ℕ) → 1 ≤ period h
  pub within : (h : ℕ) → period h ≤ periods
