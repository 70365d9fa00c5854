use Rattle.std.proofs.Common.{length}
use Rattle.closing.specs.Billing.{Bills}
use Rattle.closing.specs.Cases.{case_in}
use Rattle.closing.specs.Closing.{Billed}
use Rattle.closing.specs.Periods.{ClosedTo}
use Rattle.closing.proofs.billing_period.BillingPeriod.close_all.Given as goal

abbrev pub invariant-loop-i : goal.invariant-loop-i
invariant-loop-i g l =
    (b : Billed) → Bills b l.billed → ClosedTo (case_in g.C.Calendar.timetable g.P.Profile.weights l.self) b l.i (length l.self.hours.now) l.initial.places l.places
