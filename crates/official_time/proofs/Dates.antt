-- What the definitions of dates give: bounds, the day after, and that a day has one date.
use Rattle.std.proofs.Common.{◌≡◌, ℕ, zero, suc, ◌+◌, ◌-◌, ◌*◌, ◌/◌, ◌%◌, ◌<◌, ◌≤◌, true, eqb, leb, sym, refl, ap, ◌∙◌, ⊎_elim, arith}
use native.Mathlib.Decide.{le_ind}
use native.Mathlib.Nat.{div-add-mod}
use Rattle.std.proofs.ByRecursion.{All-get_or}
use Rattle.std.proofs.lemmas.List.{get_or_past}
use Rattle.std.proofs.lemmas.Bool.{and_parts, and_from, leb-true, le-leb, cases_lt, cond_both, eqb-true, eqb-false, cases_order}
use Rattle.official_time.specs.declared.date.Date.{Date}
use Rattle.official_time.specs.declared.date.Weekday.{Weekday}
use Rattle.official_time.specs.declared.date.Weekday.TheVariants.{Monday, Tuesday, Wednesday, Thursday, Friday, Saturday, Sunday}
use Rattle.vocabulary.specs.Ranges.{between}
use Rattle.official_time.specs.Dates.{on, leap_day, month_lengths, month_days, year_days, is_date, days_of_years, days_of_months, day_of, tomorrow, weekday, NextDate, in_month, in_year, new_year, CountsDays}

pub within : (low high n : ℕ) → between low high n ≡ true → (low ≤ n) × (n ≤ high)
within low high n h = let p = and_parts (leb low n) (leb n high) h in (leb-true low n p.0, leb-true n high p.1)

pub leap_small : (y : ℕ) → leap_day y ≤ 1
leap_small y = cond_both (eqb (y % 4) 0) 1 0 (λ v. v ≤ 1) (λ e. omega arith) (λ e. omega arith)

-- every fourth year has a day more
pub years_closed : (n : ℕ) → days_of_years n ≡ 365 * n + (n + 3) / 4
years_closed zero = refl
years_closed (suc n) =
    let ih = years_closed n in
    cond_both (eqb ((2000 + n) % 4) 0) 1 0 (λ v. days_of_years n + (365 + v) ≡ 365 * suc n + (suc n + 3) / 4)
    (λ e. let f = eqb-true ((2000 + n) % 4) 0 e in omega arith)
    (λ e. let f = eqb-false ((2000 + n) % 4) 0 e in omega arith)

pub month_within : (y m : ℕ) → 0 < month_days y m → (1 ≤ m) × (m ≤ 12)
month_within y zero h = absurd (omega arith)
month_within y (suc m) h =
    ⊎_elim (λ l. (omega arith, omega arith))
    (λ g. let e = get_or_past (month_lengths y) (suc m) 0 g in absurd (omega (arith, e)))
    (cases_lt (suc m) 13)

pub months_rise : (y m n : ℕ) → m ≤ n → days_of_months y m ≤ days_of_months y n
months_rise y m n h = le_ind (λ k. days_of_months y m ≤ days_of_months y k) (omega arith) (λ k l ih. omega arith) n h

pub months_all : (y : ℕ) → days_of_months y 13 ≡ year_days y
months_all y = omega arith

-- what a date tells
pub record Real (d : Date) : Type 0 where
  pub years : (2000 ≤ d.year) × (d.year ≤ 2099)
  pub months : (1 ≤ d.month) × (d.month ≤ 12)
  pub days : (1 ≤ d.day) × (d.day ≤ month_days d.year d.month)
  pub low : days_of_years (d.year - 2000) ≤ day_of d
  pub high : day_of d < days_of_years (d.year - 1999)

pub real : (d : Date) → is_date d ≡ true → Real d
unfolding is_date day_of
real d h =
    let p = and_parts (between 2000 2099 d.year) (between 1 (month_days d.year d.month) d.day) h in
    let y = within 2000 2099 d.year p.0 in
    let t = within 1 (month_days d.year d.month) d.day p.1 in
    let m = month_within d.year d.month (omega arith) in
    let a = months_rise d.year (suc d.month) 13 (omega arith) in
    let b = months_all d.year in
    let n : d.year - 1999 ≡ suc (d.year - 2000) = omega arith in
    let e : days_of_years (d.year - 1999) ≡ days_of_years (d.year - 2000) + year_days (2000 + (d.year - 2000)) = ap days_of_years n in
    let f : 2000 + (d.year - 2000) ≡ d.year = omega arith in
    let g : year_days (2000 + (d.year - 2000)) ≡ year_days d.year = ap year_days f in
    record { years = y; months = m; days = t; low = omega arith; high = omega arith }

-- no month has more than 31 days
month_short : (y m : ℕ) → month_days y m ≤ 31
month_short y m =
    let s = leap_small y in
    ⊎_elim (λ l. All-get_or (λ n. n ≤ 31) (month_lengths y) m 0 l (omega arith))
    (λ g. let e = get_or_past (month_lengths y) m 0 g in omega (arith, e))
    (cases_lt m 13)

pub parts : (d : Date) → is_date d ≡ true → (2000 ≤ d.year) × (d.year ≤ 2099) × (1 ≤ d.month) × (d.month ≤ 12) × (1 ≤ d.day) × (d.day ≤ 31)
parts d h = let r = real d h in let s = month_short d.year d.month in omega arith

-- the year in which a day lies: 1,461 days are four years
pub year_from : (y n : ℕ) → 2000 ≤ y → days_of_years (y - 2000) ≤ n → n < days_of_years (y - 1999) → y ≡ 2000 + 4 * n / 1461
year_from y n from low high =
    let a = years_closed (y - 2000) in
    let b = years_closed (y - 1999) in
    omega arith

pub year_at : (d : Date) → is_date d ≡ true → d.year ≡ 2000 + 4 * day_of d / 1461
year_at d h = let r = real d h in year_from d.year (day_of d) r.years.0 r.low r.high

pub day_bound : (d : Date) → is_date d ≡ true → day_of d < 36525
day_bound d h =
    let r = real d h in
    let b = years_closed (d.year - 1999) in
    omega arith

-- a week later is the same weekday
cycle : (w : Weekday) → tomorrow (tomorrow (tomorrow (tomorrow (tomorrow (tomorrow (tomorrow w)))))) ≡ w
cycle Monday = refl
cycle Tuesday = refl
cycle Wednesday = refl
cycle Thursday = refl
cycle Friday = refl
cycle Saturday = refl
cycle Sunday = refl

weeks : (q r : ℕ) → weekday (7 * q + r) ≡ weekday r
weeks zero r = let n : 7 * 0 + r ≡ r = omega arith in ap weekday n
weeks (suc q) r =
    let n : 7 * suc q + r ≡ suc (suc (suc (suc (suc (suc (suc (7 * q + r))))))) = omega arith in
    ap weekday n ∙ cycle (weekday (7 * q + r)) ∙ weeks q r

pub weekday_back : (d : ℕ) → weekday d ≡ weekday (d % 7)
weekday_back d = ap weekday (sym (div-add-mod d 7)) ∙ weeks (d / 7) (d % 7)

-- weekdays by number, from Saturday on
place : Weekday → ℕ
place Saturday = 0
place Sunday = 1
place Monday = 2
place Tuesday = 3
place Wednesday = 4
place Thursday = 5
place Friday = 6

place_tomorrow : (w : Weekday) → place (tomorrow w) ≡ (place w + 1) % 7
unfolding place
place_tomorrow Monday = refl
place_tomorrow Tuesday = refl
place_tomorrow Wednesday = refl
place_tomorrow Thursday = refl
place_tomorrow Friday = refl
place_tomorrow Saturday = refl
place_tomorrow Sunday = refl

place_weekday : (d : ℕ) → place (weekday d) ≡ d % 7
unfolding place
place_weekday zero = refl
place_weekday (suc d) = let ih = place_weekday d in let t = place_tomorrow (weekday d) in omega arith

pub is_sunday : (d : ℕ) → weekday d ≡ Sunday → d % 7 ≡ 1
unfolding place
is_sunday d e = sym (place_weekday d) ∙ ap place e

pub weekday_at : (d r : ℕ) → d % 7 ≡ r → weekday r ≡ weekday d
weekday_at d r e = ap weekday (sym e) ∙ sym (weekday_back d)

-- of two dates in a year, the one of the earlier month is earlier
apart : (y m n a b : ℕ) → m < n → 1 ≤ a → a ≤ month_days y m → 1 ≤ b → days_of_months y m + (a - 1) < days_of_months y n + (b - 1)
apart y m n a b l p q r = let h = months_rise y (suc m) n l in omega arith

-- a day has one date
pub same_date : (d e : Date) → is_date d ≡ true → is_date e ≡ true → day_of d ≡ day_of e → d ≡ e
unfolding day_of
same_date d e hd he same =
    let rd = real d hd in
    let re = real e he in
    let yd = year_at d hd in
    let ye = year_at e he in
    let years : d.year ≡ e.year = omega arith in
    let a = ap (λ y. days_of_years (y - 2000)) years in
    let b = ap (λ y. days_of_months y e.month) years in
    let c = ap (λ y. month_days y e.month) years in
    let months : d.month ≡ e.month =
    ⊎_elim (λ m. m)
    (⊎_elim
    (λ l. let h = apart d.year d.month e.month d.day e.day l rd.days.0 rd.days.1 re.days.0 in absurd (omega arith))
    (λ l. let h = apart d.year e.month d.month e.day d.day l re.days.0 (omega arith) rd.days.0 in absurd (omega arith)))
    (cases_order d.month e.month) in
    let f = ap (days_of_months d.year) months in
    let days : d.day ≡ e.day = omega arith in
    λ i. record { year = years i; month = months i; day = days i }

pub counts_days : CountsDays
unfolding day_of
counts_days = (refl, next)
  where
    next : (d n : Date) → is_date d ≡ true → NextDate d n → day_of n ≡ day_of d + 1
    next d n h (in_month l) = let r = real d h in omega arith
    next d n h (in_year e l) =
        let r = real d h in
        let m : d.month + 1 ≡ suc d.month = omega arith in
        let a = ap (days_of_months d.year) m in
        omega arith
    next d n h (new_year e t) =
        let r = real d h in
        let y : d.year + 1 - 2000 ≡ suc (d.year - 2000) = omega arith in
        let a = ap days_of_years y in
        let f : 2000 + (d.year - 2000) ≡ d.year = omega arith in
        let g = ap year_days f in
        let m : suc d.month ≡ 13 = omega arith in
        let b = ap (days_of_months d.year) m in
        let b' = months_all d.year in
        omega arith

pub in_year_of : (n : ℕ) → (days_of_years (4 * n / 1461) ≤ n) × (n < days_of_years (4 * n / 1461) + year_days (2000 + 4 * n / 1461))
in_year_of n =
    let a = years_closed (4 * n / 1461) in
    let b = years_closed (suc (4 * n / 1461)) in
    (omega arith, omega arith)

pub is_real : (y m d : ℕ) → 2000 ≤ y → y ≤ 2099 → 1 ≤ d → d ≤ month_days y m → is_date (on y m d) ≡ true
unfolding is_date
is_real y m d a b e f = and_from _ _ (and_from _ _ (le-leb 2000 y a) (le-leb y 2099 b)) (and_from _ _ (le-leb 1 d e) (le-leb d (month_days y m) f))

-- the date of the day k of a year, b being the days before its month
pub date_in : (q m b k : ℕ) → q < 100 → b ≡ days_of_months (2000 + q) m → b ≤ k → k < b + month_days (2000 + q) m → (is_date (on (2000 + q) m (k - b + 1)) ≡ true) × (day_of (on (2000 + q) m (k - b + 1)) ≡ days_of_years q + k)
unfolding day_of
date_in q m b k h e low high =
    let n : 2000 + q - 2000 ≡ q = omega arith in
    let a = ap days_of_years n in
    (is_real (2000 + q) m (k - b + 1) (omega arith) (omega arith) (omega arith) (omega arith), omega arith)
