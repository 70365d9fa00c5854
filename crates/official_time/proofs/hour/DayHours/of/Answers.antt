use Rattle.std.proofs.Common.{◌+◌, ◌*◌, arith}
use Rattle.official_time.specs.Hours.{last_hour}
use Rattle.official_time.proofs.Dates.{within}
use Rattle.official_time.proofs.Hours.{day_length, flag_small, first_counts, in_day, of_day}
use Rattle.official_time.proofs.hour.DayHours.of.Goals as goal

pub returns : goal.returns
returns c =
    let d = c.args.day in
    let a = c.first_of.ensures in
    let b = c.last_of.ensures in
    record {
      all = λ h t e. let w = within 1 last_hour h t in let i = in_day d.number d.counted h w.0 w.1 e in (omega arith, omega arith);
      only = λ h low high. let f = first_counts d.number d.counted in of_day d.number d.counted h (omega arith) (omega arith) (omega arith) (omega arith);
      order = let s = flag_small (24 * d.number + 1) in let t = flag_small (24 * d.number + 23) in omega arith;
      length = day_length d.number _ d.counted (omega arith);
    }
