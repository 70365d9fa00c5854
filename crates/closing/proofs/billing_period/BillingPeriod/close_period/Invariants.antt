use Rattle.closing.specs.Cases.{case_in}
use Rattle.closing.specs.Closing.{Billed}
use Rattle.closing.specs.Periods.{PeriodClosed, SharingAt}
use Rattle.closing.proofs.billing_period.BillingPeriod.close_period.Given as goal

abbrev pub invariant-loop-place : goal.invariant-loop-place
invariant-loop-place g l =
    (b : Billed) → SharingAt (case_in g.C.Calendar.timetable g.P.Profile.weights l.self) b l.period 0 l.initial.share →
    SharingAt (case_in g.C.Calendar.timetable g.P.Profile.weights l.self) b l.period l.place l.share
    × PeriodClosed (case_in g.C.Calendar.timetable g.P.Profile.weights l.self) b l.period l.place l.initial.places l.places
