use Rattle.std.proofs.Common.{◌≡◌, ◌+◌, ◌/◌, sym, subst, rules}
use Rattle.official_time.specs.Dates.{day_of, LastSunday}
use Rattle.official_time.specs.Hours.{change_day, change_month}
use Rattle.official_time.proofs.Hours.{change_sunday}
use Rattle.official_time.proofs.Tables.{at_place}
use Rattle.official_time.proofs.changes.change_day.Goals as goal

-- the table is what the rule gives, entry by entry
pub returns : goal.returns
unfolding day_of
returns c =
    let n = c.args.half in
    let h = c.requires in
    let value : c.from.result ≡ change_day n = rw (at_place change_day) at c.from.ensures in
    record { value = value; rule = subst (LastSunday (2000 + n / 2) (change_month n)) (sym value) (change_sunday n h); bound = search rules }
