-- The digits of a clock that is written in full.
use Rattle.std.proofs.lemmas.Bool.{and_parts}
use Rattle.std.proofs.Common.{◌≡◌, ℕ, true, ◌&&◌, eqb, List, get_or}
use Rattle.f5d.specs.Reading.{clock_written, ends_at, pair}

-- all six numbers have their two digits
pub record Numbered (b : List ℕ) : Type 0 where
  pub century : pair b 0 ≡ true
  pub year : pair b 2 ≡ true
  pub month : pair b 5 ≡ true
  pub day : pair b 8 ≡ true
  pub hour : pair b 11 ≡ true
  pub minute : pair b 14 ≡ true

pub numbered : (b : List ℕ) → clock_written b ≡ true → Numbered b
numbered b e =
    let slash = eqb (get_or b 4 0) 47 in
    let slash' = eqb (get_or b 7 0) 47 in
    let blank = eqb (get_or b 10 0) 32 in
    let colon = eqb (get_or b 13 0) 58 in
    let to-year = pair b 0 && pair b 2 in
    let to-month = to-year && slash && pair b 5 in
    let to-day = to-month && slash' && pair b 8 in
    let to-hour = to-day && blank && pair b 11 in
    let to-minute = to-hour && colon && pair b 14 in
    let minutes = and_parts (to-hour && colon) (pair b 14) (and_parts to-minute (ends_at b 16) e).0 in
    let hours = and_parts (to-day && blank) (pair b 11) (and_parts to-hour colon minutes.0).0 in
    let days = and_parts (to-month && slash') (pair b 8) (and_parts to-day blank hours.0).0 in
    let months = and_parts (to-year && slash) (pair b 5) (and_parts to-month slash' days.0).0 in
    let years = and_parts (pair b 0) (pair b 2) (and_parts to-year slash months.0).0 in
    record { century = years.0; year = years.1; month = months.1; day = days.1; hour = hours.1; minute = minutes.1 }
