-- What is reported of a supply: its hours, their energy and methods, and a picture of each clock day.
use Rattle.std.specs.Prelude.{◌≡◌, ℕ, ◌+◌, ◌-◌, ◌≤◌, Bool, true, false, cond, List, [], ◌∷◌, ◌++◌, length, replicate, decimal, ◌==◌, slice_set}
use Rattle.std.specs.List.{flat_map}
use Rattle.f5d.specs.Records.{every_record, Record, same}
use Rattle.official_time.specs.Dates.{day_of, is_date}
use Rattle.official_time.specs.Hours.{clock_day, is_hour}
use Rattle.official_time.specs.Texts.{date_text}
use Rattle.official_time.specs.declared.date.Date.{Date}

-- ## The records of a supply

abbrev pub of_supply : List ℕ → Record → Bool
of_supply s r = same s r.supply

-- the first record is of another supply, or there is none
abbrev pub turns_away : List ℕ → List Record → Bool
turns_away s [] = true
turns_away s (r ∷ rs) = cond (of_supply s r) false true

-- the records rs are those of a supply, one or more, and then others
pub record Stretch (rs stretch others : List Record) : Type 0 where
  pub first : Record
  pub more : List Record
  pub some : stretch ≡ first ∷ more
  pub all : rs ≡ stretch ++ others
  pub one : every_record (of_supply first.supply) stretch ≡ true
  pub ends : turns_away first.supply others ≡ true

-- ## The line of a supply

abbrev pub energy : List Record → ℕ
energy [] = 0
energy (r ∷ rs) = r.wh + energy rs

-- how many records have a method
abbrev pub by_method : ℕ → List Record → ℕ
by_method m [] = 0
by_method m (r ∷ rs) = cond (r.method == m) 1 0 + by_method m rs

-- each count, as a field that ends with `;` (59)
abbrev pub counts_text : List ℕ → List ℕ
counts_text = flat_map (λ n. decimal n ++ 59 ∷ [])

-- how many hours have each method, from the first to the sixth
abbrev pub methods : List Record → List ℕ
methods rs = counts_text (by_method 1 rs ∷ by_method 2 rs ∷ by_method 3 rs ∷ by_method 4 rs ∷ by_method 5 rs ∷ by_method 6 rs ∷ [])

-- the supply, its hours, their energy, and how many have each method
abbrev pub supply_line : List ℕ → List Record → List ℕ
supply_line s rs = s ++ 59 ∷ (decimal (length rs) ++ 59 ∷ (decimal (energy rs) ++ 59 ∷ (methods rs ++ 10 ∷ [])))

-- ## The picture of a clock day

-- a sign for each of n hours from the first on: the digit of the method of its record, or `.` (46) where there is none
abbrev pub with_signs : ℕ → List Record → List ℕ → List ℕ
with_signs first [] signs = signs
with_signs first (r ∷ rs) signs = with_signs first rs (slice_set signs (r.hour - first) (48 + r.method))

abbrev pub signs : ℕ → ℕ → List Record → List ℕ
signs first n rs = with_signs first rs (replicate n 46)

-- the signs of all hours of the clock day d, on which the records rs lie
pub record DaySigns (d : ℕ) (rs : List Record) (bytes : List ℕ) : Type 0 where
  pub first : ℕ
  pub last : ℕ
  pub all : (h : ℕ) → is_hour h ≡ true → clock_day h ≡ d → (first ≤ h) × (h ≤ last)
  pub only : (h : ℕ) → first ≤ h → h ≤ last → clock_day h ≡ d
  pub written : bytes ≡ signs first (last + 1 - first) rs

-- the line of a clock day: two blanks (32), the date, a blank, and the signs of its hours
pub record DayText (d : ℕ) (rs : List Record) (bytes : List ℕ) : Type 0 where
  pub date : Date
  pub real : is_date date ≡ true
  pub here : day_of date ≡ d
  pub hours : List ℕ
  pub picture : DaySigns d rs hours
  pub written : bytes ≡ 32 ∷ 32 ∷ (date_text date ++ 32 ∷ (hours ++ 10 ∷ []))

abbrev pub on_day : ℕ → Record → Bool
on_day d r = clock_day r.hour == d

-- the first record lies on another clock day, or there is none
abbrev pub leaves_day : ℕ → List Record → Bool
leaves_day d [] = true
leaves_day d (r ∷ rs) = cond (on_day d r) false true

-- the text of each clock day that has records, in their order
pub data Days : List Record → List ℕ → Type 0 where
  none : Days [] []
  one_more : {d : ℕ} {r : Record} {day others : List Record} {text more : List ℕ} →
      every_record (on_day d) (r ∷ day) ≡ true → leaves_day d others ≡ true → DayText d (r ∷ day) text → Days others more → Days ((r ∷ day) ++ others) (text ++ more)

-- all that is reported of a supply
pub record SupplyText (s : List ℕ) (rs : List Record) (bytes : List ℕ) : Type 0 where
  pub days : List ℕ
  pub pictures : Days rs days
  pub written : bytes ≡ supply_line s rs ++ days
