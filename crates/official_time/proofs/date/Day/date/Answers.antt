use Rattle.std.proofs.Common.{◌-◌, ◌*◌, ◌/◌, arith}
use Rattle.official_time.proofs.Dates.{date_in, in_year_of, same_date}
use Rattle.official_time.proofs.date.Day.date.Goals as goal

pub overflow_sub-in_year : goal.overflow_sub-in_year
overflow_sub-in_year c = let y = in_year_of c.args.self.number in omega arith

pub month_at-month-requires : goal.month_at-month-requires
month_at-month-requires c = let y = in_year_of c.args.self.number in omega arith

pub returns : goal.returns
returns c =
    let n = c.args.self.number in
    let y = in_year_of n in
    let m = c.month_at-month in
    let b = c.days_before in
    let d = date_in (4 * n / 1461) m.result b.result (n - c.days_before_year.result) (omega arith) b.ensures.value (omega arith) (omega arith) in
    record { real = d.0; value = omega arith; only = λ e h s. same_date e _ h d.0 (omega arith) }
