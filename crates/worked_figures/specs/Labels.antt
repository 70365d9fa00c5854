-- The labels of the hours at the two changes of the clock in 2024.
use Rattle.std.specs.Prelude.{ℕ}
use Rattle.official_time.specs.Dates.{on}
use Rattle.official_time.specs.Hours.{IsLabel}

-- hour h is labelled with the date y/m/d, a full hour and a flag
abbrev pub Labelled : (h y m d hour flag : ℕ) → Type 0
Labelled h y m d hour flag = IsLabel h (record { date = on y m d; hour = hour; minute = 0; second = 0; flag = flag })
