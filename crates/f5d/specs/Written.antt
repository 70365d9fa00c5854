-- How records are written: the label of an hour computed, and the lines of records as bytes.
use Rattle.std.specs.Prelude.{ℕ, zero, suc, ◌+◌, ◌-◌, ◌*◌, ◌/◌, ◌%◌, cond, List, [], ◌∷◌, ◌++◌, nat_le}
use Rattle.std.specs.List.{concat}
use Rattle.official_time.specs.Dates.{days_of_months, days_of_years, on}
use Rattle.official_time.specs.Hours.{flag}
use Rattle.official_time.specs.declared.date.Date.{Date}
use Rattle.official_time.specs.declared.label.Label.{Label}
use Rattle.f5d.specs.Records.{fields, Record}

-- the last of the months 1 to m of the year y that has begun on the year's day k, days counted from 0
abbrev pub month_begun : ℕ → ℕ → ℕ → ℕ
month_begun y k zero = 0
month_begun y k (suc m) = cond (nat_le (days_of_months y (suc m)) k) (suc m) (month_begun y k m)

-- the date of the year's day k
abbrev pub date_in_year : ℕ → ℕ → Date
date_in_year y k = let m = month_begun y k 12 in on y m (k - days_of_months y m + 1)

-- the date of a day by its number; 1,461 days are four years
abbrev pub date_at : ℕ → Date
date_at d = let years = 4 * d / 1461 in date_in_year (2000 + years) (d - days_of_years years)

unfoldable pub label_of : ℕ → Label
label_of h = record { date = date_at ((h + flag h) / 24); hour = (h + flag h) % 24; minute = 0; second = 0; flag = flag h }

-- the line of a record, and those of several, one after the other
abbrev pub line_text : Record → List ℕ
line_text r = concat (fields (label_of r.hour) r)

unfoldable pub lines_text : List Record → List ℕ
lines_text [] = []
lines_text (r ∷ rs) = line_text r ++ lines_text rs
