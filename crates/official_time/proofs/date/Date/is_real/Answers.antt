use Rattle.std.proofs.Common.{◌≡◌, sym, ◌∙◌, rules}
use Rattle.vocabulary.specs.Ranges.{between}
use Rattle.official_time.specs.Dates.{is_date}
use Rattle.official_time.proofs.Dates.{parts}
use Rattle.official_time.proofs.date.Date.is_real.Goals as goal

pub returns-then-contains : goal.returns-then-contains
unfolding is_date
returns-then-contains c =
    let d = c.args.self in
    let day : c.contains-then-contains.result ≡ between 1 c.month_days.result d.day = search rules in
    let v : _ ≡ is_date d = search (rules, c.month_days.ensures, day) in
    record { value = v; parts = λ e. parts d (sym v ∙ e) }

pub returns-else-contains-clause-value : goal.returns-else-contains-clause-value
unfolding is_date
returns-else-contains-clause-value c = search rules
