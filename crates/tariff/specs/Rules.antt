-- The rules of the three calendars: the tariff period of every hour.
use Rattle.std.specs.Prelude.{◌≡◌, ℕ, ◌+◌, ◌*◌, ◌/◌, ◌<◌, Bool, true, false, cond, ◌||◌, List, ◌==◌}
use Rattle.std.specs.List.{list_any}
use Rattle.vocabulary.specs.Ranges.{between}
use Rattle.official_time.specs.Dates.{day_of, is_date, on, weekday}
use Rattle.official_time.specs.Hours.{clock_day, clock_place, flag}
use Rattle.official_time.specs.declared.date.Day.{Day}
use Rattle.official_time.specs.declared.date.Weekday.{Weekday}
use Rattle.official_time.specs.declared.date.Weekday.TheVariants.{Monday, Tuesday, Wednesday, Thursday, Friday, Saturday, Sunday}

-- 2.0A has one period
abbrev pub period_20a : ℕ → ℕ
period_20a h = 1

-- 2.0DHA has period 1 at places 13 to 22 in winter and 14 to 23 in summer, and period 2 otherwise
abbrev pub peak_20dha : ℕ → ℕ → Bool
peak_20dha season place = cond (season == 0) (between 13 22 place) (between 14 23 place)

abbrev pub period_20dha : ℕ → ℕ
period_20dha h = cond (peak_20dha (flag h) (clock_place h)) 1 2

-- 2.0TD has period 3 on Saturdays, Sundays, 6 January and holidays
abbrev pub is_weekend : Weekday → Bool
is_weekend Monday = false
is_weekend Tuesday = false
is_weekend Wednesday = false
is_weekend Thursday = false
is_weekend Friday = false
is_weekend Saturday = true
is_weekend Sunday = true

-- the day is 6 January of the year in which it lies: 1,461 days are four years
abbrev pub is_6_january : ℕ → Bool
is_6_january d = d == day_of (on (2000 + 4 * d / 1461) 1 6)

abbrev pub listed : ℕ → List Day → Bool
listed d = list_any (λ x. x.number == d)

unfoldable pub free_day : List Day → ℕ → Bool
free_day holidays d = is_weekend (weekday d) || is_6_january d || listed d holidays

-- on other days it goes by the clock: 1 to 8 are period 3, 11 to 14 and 19 to 22 period 1, the rest period 2
abbrev pub by_place : ℕ → ℕ
by_place p = cond (between 1 8 p) 3 (cond (between 11 14 p || between 19 22 p) 1 2)

abbrev pub period_20td : List Day → ℕ → ℕ
period_20td holidays h = cond (free_day holidays (clock_day h)) 3 (by_place (clock_place h))

-- the test for 6 January holds of a day exactly where it has that date in some year
abbrev pub SixJanuaryLaw : Type 0
SixJanuaryLaw = (d : ℕ) → d < 36525 → (is_6_january d ≡ true → (y : ℕ) × (is_date (on y 1 6) ≡ true) × (d ≡ day_of (on y 1 6))) × ((y : ℕ) → is_date (on y 1 6) ≡ true → d ≡ day_of (on y 1 6) → is_6_january d ≡ true)
