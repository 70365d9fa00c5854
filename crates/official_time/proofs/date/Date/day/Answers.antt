use Rattle.std.proofs.Common.{◌≡◌, true, sym, refl, ◌∙◌, arith}
use Rattle.official_time.specs.Dates.{day_of, is_date}
use Rattle.official_time.proofs.Dates.{counts_days, day_bound}
use Rattle.official_time.proofs.date.Date.day.Goals as goal

pub returns-then-not-is_real : goal.returns-then-not-is_real
returns-then-not-is_real c = record { cases = (sym c.is_real.ensures.value ∙ c.if-not-is_real.true, refl); counts = counts_days }

pub invariant_of-result : goal.invariant_of-result
unfolding day_of
invariant_of-result c =
    let h : is_date c.args.self ≡ true = sym c.is_real.ensures.value ∙ c.if-not-is_real.false in
    let b = day_bound c.args.self h in
    omega arith

pub returns : goal.returns
unfolding day_of
returns c =
    let h : is_date c.args.self ≡ true = sym c.is_real.ensures.value ∙ c.if-not-is_real.false in
    record { cases = (h, omega arith); counts = counts_days }
