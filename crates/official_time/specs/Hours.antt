-- Hours of official time: their numbers, the summer flag, their labels, and the clock.
use Rattle.std.specs.Prelude.{◌≡◌, ℕ, ◌+◌, ◌-◌, ◌*◌, ◌/◌, ◌%◌, ◌<◌, ◌≤◌, Bool, true, cond, ◌&&◌, ◌==◌, nat_le, nat_lt}
use Rattle.official_time.specs.declared.label.Label.{Label}
use Rattle.official_time.specs.declared.season.Season.{Season}
use Rattle.official_time.specs.declared.season.Season.TheVariants.{Winter, Summer}
use Rattle.vocabulary.specs.Ranges.{between}
use Rattle.official_time.specs.Dates.{on, is_date, day_of, LastSunday}

-- Hour h ends h hours after 2000/01/01 00:00 winter time; the last one ends on 2099/12/31 at 23:00.
abbrev pub last_hour : ℕ
last_hour = 876599

abbrev pub is_hour : ℕ → Bool
is_hour h = between 1 last_hour h

-- the last Sunday of a month that has 31 days: from the 31st back to the Sunday, which is day 1 and every seventh from there
abbrev pub last_sunday : ℕ → ℕ → ℕ
last_sunday y m = let d = day_of (on y m 31) in d - (d + 6) % 7

-- half-years are counted from 0 at the beginning of 2000; the clock changes in March in the first of a year, in October in the second
abbrev pub change_month : ℕ → ℕ
change_month n = cond (n % 2 == 0) 3 10

abbrev pub change_day : ℕ → ℕ
change_day n = last_sunday (2000 + n / 2) (change_month n)

-- the year in which an hour ends, by winter time: 1,461 days are four years
abbrev pub year_of : ℕ → ℕ
year_of h = 2000 + 4 * (h / 24) / 1461

abbrev pub season_flag : Season → ℕ
season_flag Winter = 0
season_flag Summer = 1

-- the flag of an hour: 1 from the change in March to the change in October, else 0
unfoldable pub flag : ℕ → ℕ
flag h = cond (nat_le (24 * last_sunday (year_of h) 3 + 2) h && nat_lt h (24 * last_sunday (year_of h) 10 + 2)) 1 0

-- the hour lies in the summer of some year: between its last Sunday of March and its last Sunday of October
pub record InSummer (h : ℕ) : Type 0 where
  pub year : ℕ
  pub begins : ℕ
  pub ends : ℕ
  pub march : LastSunday year 3 begins
  pub october : LastSunday year 10 ends
  pub from : 24 * begins + 2 ≤ h
  pub to : h < 24 * ends + 2

-- l is the label of the hour h: the date and clock of h + flag, and the flag
pub record IsLabel (h : ℕ) (l : Label) : Type 0 where
  pub hour : (1 ≤ h) × (h ≤ last_hour)
  pub date : is_date l.date ≡ true
  pub clock : 24 * day_of l.date + l.hour ≡ h + flag h
  pub below_24 : l.hour < 24
  pub full : (l.minute ≡ 0) × (l.second ≡ 0)
  pub season : l.flag ≡ flag h

-- the one hour that a label can mean
unfoldable pub meant : Label → ℕ
meant l = 24 * day_of l.date + l.hour - l.flag

-- some hour has this label
unfoldable pub is_label : Label → Bool
is_label l = is_date l.date && nat_lt l.hour 24 && l.minute == 0 && l.second == 0 && is_hour (meant l) && l.flag == flag (meant l)

-- the clock day of an hour, and its place in that day, from 1
abbrev pub clock_day : ℕ → ℕ
clock_day h = (h + flag h - 1) / 24

abbrev pub clock_place : ℕ → ℕ
clock_place h = (h + flag h - 1) % 24 + 1

-- how the clock goes on from an hour to the next one
pub data GoesOn (h : ℕ) : Type 0 where
  ordinary : flag (h + 1) ≡ flag h → clock_day (h + 1) ≡ clock_day h → clock_place (h + 1) ≡ clock_place h + 1 → GoesOn h
  midnight : flag (h + 1) ≡ flag h → clock_day (h + 1) ≡ clock_day h + 1 → clock_place h ≡ 24 → clock_place (h + 1) ≡ 1 → GoesOn h
  spring : flag h ≡ 0 → flag (h + 1) ≡ 1 → clock_day (h + 1) ≡ clock_day h → clock_place h ≡ 1 → clock_place (h + 1) ≡ 3 → GoesOn h
  autumn : flag h ≡ 1 → flag (h + 1) ≡ 0 → clock_day (h + 1) ≡ clock_day h → clock_place h ≡ 2 → clock_place (h + 1) ≡ 2 → GoesOn h

-- how many hours the clock day d has
pub data DayLength (d : ℕ) : ℕ → Type 0 where
  spring : (y : ℕ) → LastSunday y 3 d → DayLength d 23
  autumn : (y : ℕ) → LastSunday y 10 d → DayLength d 25
  ordinary : ((y : ℕ) → LastSunday y 3 d → ⊥) → ((y : ℕ) → LastSunday y 10 d → ⊥) → d < 36524 → DayLength d 24
  last : d ≡ 36524 → DayLength d 23
