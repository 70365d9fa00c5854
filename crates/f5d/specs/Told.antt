-- What the program's readings of lines say.
use Rattle.std.specs.Prelude.{ℕ, suc, ◌-◌, Bool, not, ◌&&◌, ◌||◌, List, drop, Ok, Err, Result, ◌==◌, nat_le, slice_index}
use Rattle.official_time.specs.declared.hour.Hour.{Hour}
use Rattle.official_time.specs.Hours.{is_label}
use Rattle.vocabulary.specs.Codes.{visible}
use Rattle.vocabulary.specs.Refusals.{letter}
use Rattle.vocabulary.specs.declared.refusal.Field.{Field}
use Rattle.f5d.specs.Meanings.{billed_record, record_of}
use Rattle.f5d.specs.Reading.{LineRead, bad, ends_at, good, label_under, leading, one_digit}
use Rattle.vocabulary.specs.Codes.{digit}
use Rattle.f5d.specs.declared.billed.BilledHour.{BilledHour}
use Rattle.f5d.specs.declared.hours.HourRecord.{HourRecord}
use Rattle.f5d.specs.declared.line.Taken.{Taken}

-- the flag that is written behind a clock, and whether some hour has the label under it
abbrev pub flag_written : List ℕ → ℕ
flag_written b = slice_index b 17 - 48

abbrev pub flag_right : List ℕ → Bool
flag_right b = one_digit 0 1 (drop 17 b) && is_label (label_under b (flag_written b))

-- some hour has the label under one flag or the other
abbrev pub clock_right : List ℕ → Bool
clock_right b = is_label (label_under b 0) || is_label (label_under b 1)

-- an energy or an invoice code stands there, of so many bytes
abbrev pub energy_right : List ℕ → Bool
energy_right b = let k = leading digit 10 b in nat_le 1 k && ends_at b k && (k == 1 || not (slice_index b 0 == 48))

abbrev pub invoice_right : List ℕ → Bool
invoice_right b = let k = leading visible 26 b in nat_le 1 k && ends_at b k && slice_index b (suc k) == 10

-- the place of a field in a line, counted from 0: A (65) is the first
abbrev pub place_of : Field → ℕ
place_of f = letter f - 65

-- an hour, with which the reading goes on
abbrev pub hour_told : (ℕ → LineRead) → Result Hour Field → LineRead
hour_told next (Ok h) = next h.number
hour_told next (Err f) = bad (place_of f)

-- the fields from D on, of an hour of a supply
abbrev pub billed_told : List ℕ → ℕ → List ℕ → Result (Taken BilledHour) Field → LineRead
billed_told supply hour bytes (Ok b) = good (billed_record supply hour b.value) (drop b.length bytes)
billed_told supply hour bytes (Err f) = bad (place_of f)

-- a whole line
abbrev pub line_told : List ℕ → Result (Taken HourRecord) Field → LineRead
line_told bytes (Ok l) = good (record_of l.value) (drop l.length bytes)
line_told bytes (Err f) = bad (place_of f)
