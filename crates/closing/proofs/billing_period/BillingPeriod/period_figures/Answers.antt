use Rattle.std.proofs.Common.{◌≡◌, length, sym, ap, ◌∙◌, subst, arith}
use Rattle.profile.specs.Weights.{Light}
use Rattle.closing.specs.Cases.{case_in}
use Rattle.closing.specs.Closing.{period_at}
use Rattle.closing.specs.Lent.{figures_to, totals, with_missing}
use Rattle.closing.proofs.Figuring.{energies_length, energy_limit, hours_limit, missing_next, other_next, read_next}
use Rattle.closing.proofs.billing_period.BillingPeriod.period_figures.Goals as goal
use Rattle.closing.proofs.billing_period.BillingPeriod.period_figures.Goals.{then-period+in-Some, then-period+in-None, else-period}

pub with_read-figures-requires : goal.with_read-figures-requires
with_read-figures-requires g c =
    let s = c.args.self.now in
    let i = c.loop-place.place in
    let a = ap (λ f. f.hours) c.loop-place.invariant in
    let h = hours_limit g.C.Calendar.timetable g.P.Profile.weights s c.args.period i in
    record { few = omega (arith, s.lent.few); small = energy_limit s i c.in-Some.energy c.in-Some.is }

pub with_missing-figures-requires : goal.with_missing-figures-requires
with_missing-figures-requires g c =
    let s = c.args.self.now in
    let a = ap (λ f. f.hours) c.loop-place.invariant in
    let h = hours_limit g.C.Calendar.timetable g.P.Profile.weights s c.args.period c.loop-place.place in
    record { few = omega (arith, s.lent.few); light = subst Light (sym c.weight.ensures) ((g.P.Profile.weights s.profile.now).light _) }

pub loop-place-preserved : goal.loop-place-preserved
loop-place-preserved g c =
    let t = g.C.Calendar.timetable in
    let w = g.P.Profile.weights in
    let s = c.args.self.now in
    let p = c.args.period in
    let i = c.loop-place.place in
    let f = totals c.loop-place.figures in
    let e = c.loop-place.invariant in
    let asked : c.period.result ≡ period_at (case_in t w s) i = c.period.ensures ∙ ap (t s.calendar.now).period c.hour_at-hour.ensures in
    elim c.if-period.branch [
      | then-period+in-Some r ↦ ap totals r.figures-is ∙ r.with_read-figures.ensures ∙ read_next t w s p i c.period.result f e asked r.in-Some.energy r.if-period.true r.in-Some.is
      | then-period+in-None r ↦ ap totals r.figures-is ∙ r.with_missing-figures.ensures ∙ ap (λ x. with_missing f x) (r.weight.ensures ∙ ap (w s.profile.now).weight c.hour_at-hour.ensures)
          ∙ missing_next t w s p i c.period.result f e asked r.if-period.true r.in-None.is
      | else-period r ↦ ap totals r.figures-is ∙ other_next t w s p i c.period.result f e asked r.if-period.false
    ]

pub returns : goal.returns
returns g c =
    let s = c.args.self.now in
    let end : c.loop-place.place ≡ length s.hours.now = omega arith in
    c.loop-place.invariant ∙ ap (figures_to (case_in g.C.Calendar.timetable g.P.Profile.weights s) c.args.period) (end ∙ sym (energies_length s.hours.now))
