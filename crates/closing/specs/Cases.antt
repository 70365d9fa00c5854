-- The case that a billing period is.
use Rattle.profile.specs.Weights.{Weights}
use Rattle.tariff.specs.Timetables.{Timetable}
use Rattle.closing.specs.Closing.{Case}
use Rattle.closing.specs.Lent.{case_of}
use Rattle.closing.specs.declared.billing_period.BillingPeriod.{BillingPeriod}

-- by what its calendar and its profile mean
abbrev pub case_in : {C P : Type 0} → (C → Timetable) → (P → Weights) → BillingPeriod C P → Case
case_in timetable weights b = case_of b.first.number b.hours.now (timetable b.calendar.now) (weights b.profile.now)
