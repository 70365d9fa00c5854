use Rattle.std.proofs.Common.{rules}
use Rattle.official_time.proofs.Texts.{date_back}
use Rattle.official_time.proofs.text.read_parts.Goals as goal

pub returns : goal.returns
returns c = (
  search rules,
  date_back c.args.text.now c.in_ok-century.century c.in_ok-year.year c.in_ok-month.month c.in_ok-day.day (search rules) (search rules) (search rules)
      c.in_ok-year.ensures.0 c.in_ok-century.ensures.1 c.in_ok-year.ensures.1 c.in_ok-month.ensures.1 c.in_ok-day.ensures.1,
)
