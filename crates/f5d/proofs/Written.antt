-- What is written of a record is its line.
use Rattle.std.proofs.Common.{◌≡◌, ℕ, zero, suc, ◌+◌, ◌-◌, ◌*◌, ◌/◌, ◌<◌, ◌≤◌, true, ◌&&◌, leb, List, [], ◌∷◌, refl, ◌∙◌, arith}
use Rattle.std.proofs.lemmas.Bool.{and_parts, cond_both, leb-false, leb-true}
use Rattle.official_time.proofs.Dates.{date_in, in_year_of, months_all, within}
use Rattle.official_time.proofs.Hours.{clock_bound}
use Rattle.official_time.specs.Dates.{day_of, days_of_months, days_of_years, is_date, month_days}
use Rattle.official_time.specs.Hours.{flag, is_hour, IsLabel, last_hour}
use Rattle.vocabulary.specs.Codes.{is_invoice, is_supply}
use Rattle.vocabulary.specs.Ranges.{between}
use Rattle.f5d.specs.Records.{can_bear, every_record, IsLine, Lines, none, one_more, Record}
use Rattle.f5d.specs.Written.{date_at, label_of, line_text, lines_text, month_begun}

-- the last month that has begun holds the day
month_here : (y k m : ℕ) → days_of_months y 0 ≤ k → k < days_of_months y (suc m) →
    (days_of_months y (month_begun y k m) ≤ k) × (k < days_of_months y (month_begun y k m) + month_days y (month_begun y k m))
month_here y k zero low high = (low, high)
month_here y k (suc m) low high =
    cond_both (leb (days_of_months y (suc m)) k) (suc m) (month_begun y k m)
    (λ n. (days_of_months y n ≤ k) × (k < days_of_months y n + month_days y n))
    (λ t. (leb-true (days_of_months y (suc m)) k t, high))
    (λ t. month_here y k m low (leb-false (days_of_months y (suc m)) k t))

pub date_here : (d : ℕ) → d < 36525 → (is_date (date_at d) ≡ true) × (day_of (date_at d) ≡ d)
date_here d l =
    let q = 4 * d / 1461 in
    let k = d - days_of_years q in
    let y = in_year_of d in
    let a = months_all (2000 + q) in
    let m = month_here (2000 + q) k 12 (omega arith) (omega arith) in
    let r = date_in q (month_begun (2000 + q) k 12) (days_of_months (2000 + q) (month_begun (2000 + q) k 12)) k (omega arith) refl m.0 m.1 in
    (r.0, r.1 ∙ omega arith)

pub label_here : (h : ℕ) → is_hour h ≡ true → IsLabel h (label_of h)
unfolding label_of
label_here h e =
    let w = within 1 last_hour h e in
    let b = clock_bound h w.1 in
    let d = date_here ((h + flag h) / 24) (omega arith) in
    let p = d.1 in
    record { hour = w; date = d.0; clock = omega arith; below_24 = omega arith; full = (refl, refl); season = refl }

pub bears_hour : (r : Record) → can_bear r ≡ true → is_hour r.hour ≡ true
bears_hour r e =
    let a = and_parts (is_supply r.supply && is_hour r.hour && leb r.wh 9999999999 && between 1 6 r.method && leb r.firmness 1) (is_invoice r.invoice) e in
    let b = and_parts (is_supply r.supply && is_hour r.hour && leb r.wh 9999999999 && between 1 6 r.method) (leb r.firmness 1) a.0 in
    let c = and_parts (is_supply r.supply && is_hour r.hour && leb r.wh 9999999999) (between 1 6 r.method) b.0 in
    let d = and_parts (is_supply r.supply && is_hour r.hour) (leb r.wh 9999999999) c.0 in
    (and_parts (is_supply r.supply) (is_hour r.hour) d.0).1

pub line_here : (r : Record) → can_bear r ≡ true → IsLine r (line_text r)
line_here r e = record { label = label_of r.hour; labels = label_here r.hour (bears_hour r e); written = refl }

pub lines_here : (rs : List Record) → every_record can_bear rs ≡ true → Lines rs (lines_text rs)
unfolding lines_text
lines_here [] e = none
lines_here (r ∷ rs) e =
    let p = and_parts (can_bear r) (every_record can_bear rs) e in
    one_more (line_here r p.0) (lines_here rs p.1)
