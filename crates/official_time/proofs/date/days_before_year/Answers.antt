use Rattle.std.proofs.Common.{sym, arith}
use Rattle.official_time.proofs.Dates.{years_closed}
use Rattle.official_time.proofs.date.days_before_year.Goals as goal

pub returns : goal.returns
returns c = record { value = sym (years_closed c.args.years); bound = omega arith }
