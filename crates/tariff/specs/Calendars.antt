-- The timetables of the three calendars.
use Rattle.std.specs.Prelude.{ℕ, ◌≤◌, cond, ◌||◌, List}
use Rattle.std.proofs.Common.{arith}
use Rattle.std.proofs.lemmas.Bool.{cond_both}
use Rattle.vocabulary.specs.Ranges.{between}
use Rattle.official_time.specs.declared.date.Day.{Day}
use Rattle.official_time.specs.Hours.{clock_day, clock_place, flag}
use Rattle.tariff.specs.Rules.{by_place, free_day, peak_20dha, period_20a, period_20dha, period_20td}
use Rattle.tariff.specs.Timetables.{Timetable}

abbrev pub timetable_20a : Timetable
timetable_20a = record { periods = 1; period = period_20a; some = omega arith; few = omega arith; from_one = λ h. omega arith; within = λ h. omega arith }

abbrev pub timetable_20dha : Timetable
timetable_20dha = record {
  periods = 2;
  period = period_20dha;
  some = omega arith;
  few = omega arith;
  from_one = λ h. cond_both (peak_20dha (flag h) (clock_place h)) 1 2 (λ n. 1 ≤ n) (λ _. omega arith) (λ _. omega arith);
  within = λ h. cond_both (peak_20dha (flag h) (clock_place h)) 1 2 (λ n. n ≤ 2) (λ _. omega arith) (λ _. omega arith);
}

pub by_place_from : (p : ℕ) → 1 ≤ by_place p
by_place_from p =
    cond_both (between 1 8 p) 3 (cond (between 11 14 p || between 19 22 p) 1 2) (λ n. 1 ≤ n) (λ _. omega arith)
    (λ _. cond_both (between 11 14 p || between 19 22 p) 1 2 (λ n. 1 ≤ n) (λ _. omega arith) (λ _. omega arith))

pub by_place_to : (p : ℕ) → by_place p ≤ 3
by_place_to p =
    cond_both (between 1 8 p) 3 (cond (between 11 14 p || between 19 22 p) 1 2) (λ n. n ≤ 3) (λ _. omega arith)
    (λ _. cond_both (between 11 14 p || between 19 22 p) 1 2 (λ n. n ≤ 3) (λ _. omega arith) (λ _. omega arith))

abbrev pub timetable_20td : List Day → Timetable
timetable_20td holidays = record {
  periods = 3;
  period = period_20td holidays;
  some = omega arith;
  few = omega arith;
  from_one = λ h. cond_both (free_day holidays (clock_day h)) 3 (by_place (clock_place h)) (λ n. 1 ≤ n) (λ _. omega arith) (λ _. by_place_from (clock_place h));
  within = λ h. cond_both (free_day holidays (clock_day h)) 3 (by_place (clock_place h)) (λ n. n ≤ 3) (λ _. omega arith) (λ _. by_place_to (clock_place h));
}
