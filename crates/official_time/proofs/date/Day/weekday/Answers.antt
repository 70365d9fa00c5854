use Rattle.std.proofs.Common.{sym, ◌∙◌}
use Rattle.official_time.proofs.Dates.{weekday_back}
use Rattle.official_time.proofs.date.Day.weekday.Goals as goal

pub returns : goal.returns
returns c = c.weekday_at.ensures ∙ sym (weekday_back c.args.self.number)
