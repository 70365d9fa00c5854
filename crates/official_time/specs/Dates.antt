-- Dates from 2000 to 2099, and the numbers of days: day 0 is 2000/01/01, a Saturday.
use Rattle.std.specs.Prelude.{◌≡◌, ℕ, zero, suc, ◌+◌, ◌-◌, ◌%◌, ◌<◌, Bool, true, cond, ◌&&◌, List, [], ◌∷◌, ◌==◌, slice_index}
use Rattle.vocabulary.specs.Ranges.{between}
use Rattle.official_time.specs.declared.date.Date.{Date}
use Rattle.official_time.specs.declared.date.Weekday.{Weekday}
use Rattle.official_time.specs.declared.date.Weekday.TheVariants.{Monday, Tuesday, Wednesday, Thursday, Friday, Saturday, Sunday}

abbrev pub on : ℕ → ℕ → ℕ → Date
on y m d = record { year = y; month = m; day = d }

-- from 2000 to 2099 every fourth year has a 29 February
abbrev pub leap_day : ℕ → ℕ
leap_day y = cond (y % 4 == 0) 1 0

-- the lengths of the months, from January at place 1 on
abbrev pub month_lengths : ℕ → List ℕ
month_lengths y = 0 ∷ 31 ∷ (28 + leap_day y) ∷ 31 ∷ 30 ∷ 31 ∷ 30 ∷ 31 ∷ 31 ∷ 30 ∷ 31 ∷ 30 ∷ 31 ∷ []

-- how many days the month m of the year y has; 0 where there is no such month
abbrev pub month_days : ℕ → ℕ → ℕ
month_days y m = slice_index (month_lengths y) m

abbrev pub year_days : ℕ → ℕ
year_days y = 365 + leap_day y

unfoldable pub is_date : Date → Bool
is_date d = between 2000 2099 d.year && between 1 (month_days d.year d.month) d.day

-- the days of the n years from 2000 on
abbrev pub days_of_years : ℕ → ℕ
days_of_years zero = 0
days_of_years (suc n) = days_of_years n + year_days (2000 + n)

-- the days of the year y before its month m
abbrev pub days_of_months : ℕ → ℕ → ℕ
days_of_months y zero = 0
days_of_months y (suc m) = days_of_months y m + month_days y m

-- the number of the day of a date
unfoldable pub day_of : Date → ℕ
day_of d = days_of_years (d.year - 2000) + days_of_months d.year d.month + (d.day - 1)

-- how many days have a number
abbrev pub all_days : ℕ
all_days = 36525

abbrev pub tomorrow : Weekday → Weekday
tomorrow Monday = Tuesday
tomorrow Tuesday = Wednesday
tomorrow Wednesday = Thursday
tomorrow Thursday = Friday
tomorrow Friday = Saturday
tomorrow Saturday = Sunday
tomorrow Sunday = Monday

abbrev pub weekday : ℕ → Weekday
weekday zero = Saturday
weekday (suc d) = tomorrow (weekday d)

-- n is the date of the day after d
pub data NextDate (d : Date) : Date → Type 0 where
  in_month : d.day < month_days d.year d.month → NextDate d (on d.year d.month (d.day + 1))
  in_year : d.day ≡ month_days d.year d.month → d.month < 12 → NextDate d (on d.year (d.month + 1) 1)
  new_year : d.day ≡ month_days d.year d.month → d.month ≡ 12 → NextDate d (on (d.year + 1) 1 1)

-- Days are counted from 2000/01/01, one after the other.
abbrev pub CountsDays : Type 0
CountsDays = (day_of (on 2000 1 1) ≡ 0) × ((d n : Date) → is_date d ≡ true → NextDate d n → day_of n ≡ day_of d + 1)

-- the day d is the last Sunday of the month m of the year y: a Sunday, and the next one is in another month
pub record LastSunday (y m d : ℕ) : Type 0 where
  pub date : ℕ
  pub real : is_date (on y m date) ≡ true
  pub late : month_days y m < date + 7
  pub here : d ≡ day_of (on y m date)
  pub sunday : weekday d ≡ Sunday
