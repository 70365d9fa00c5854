use Rattle.std.proofs.Common.{arith}
use Rattle.std.proofs.lemmas.Bool.Decides.{nat_tests}
use Rattle.tariff.proofs.January.{by_date}
use Rattle.tariff.proofs.rates.is_6_january.Goals as goal

pub returns-then-date-eq1 : goal.returns-then-date-eq1
returns-then-date-eq1 c = let d = c.date-date in let b = by_date c.args.day.number c.args.day.counted d.result d.ensures.real d.ensures.value in grind (arith, nat_tests)

pub returns-else-date-eq1 : goal.returns-else-date-eq1
returns-else-date-eq1 c = let d = c.date-date in let b = by_date c.args.day.number c.args.day.counted d.result d.ensures.real d.ensures.value in grind (arith, nat_tests)
