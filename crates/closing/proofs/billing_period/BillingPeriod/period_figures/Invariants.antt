use Rattle.std.proofs.Common.{◌≡◌}
use Rattle.closing.specs.Cases.{case_in}
use Rattle.closing.specs.Lent.{figures_to, totals}
use Rattle.closing.proofs.billing_period.BillingPeriod.period_figures.Given as goal

abbrev pub invariant-loop-place : goal.invariant-loop-place
invariant-loop-place g l = totals l.figures ≡ figures_to (case_in g.C.Calendar.timetable g.P.Profile.weights l.self) l.period l.place
