-- How dates and labels are written: aaaa/mm/dd, and aaaa/mm/dd hh:mm.
use Rattle.std.specs.Prelude.{ℕ, ◌+◌, ◌/◌, ◌%◌, ◌<◌, List, [], ◌∷◌, ◌++◌}
use Rattle.official_time.specs.declared.date.Date.{Date}
use Rattle.official_time.specs.declared.label.Label.{Label}

-- the last two digits of n
abbrev pub two_digits : ℕ → List ℕ
two_digits n = (48 + n / 10 % 10) ∷ (48 + n % 10) ∷ []

abbrev pub four_digits : ℕ → List ℕ
four_digits n = two_digits (n / 100) ++ two_digits n

-- 47 is `/`
abbrev pub date_text : Date → List ℕ
date_text d = four_digits d.year ++ 47 ∷ (two_digits d.month ++ 47 ∷ two_digits d.day)

-- 32 is a space and 58 is `:`
abbrev pub label_text : Label → List ℕ
label_text l = date_text l.date ++ 32 ∷ (two_digits l.hour ++ 58 ∷ two_digits l.minute)

-- the year has four digits at most, and month and day two
pub record Short (d : Date) : Type 0 where
  pub year : d.year < 10000
  pub month : d.month < 100
  pub day : d.day < 100
