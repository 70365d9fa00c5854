use Rattle.std.proofs.Common.{◌≡◌, ◌+◌, ◌<◌, length, get_or, None, sym, ap, ◌∙◌, subst, arith}
use Rattle.closing.specs.Cases.{case_in}
use Rattle.closing.specs.Closing.{period_at}
use Rattle.closing.specs.Periods.{PeriodClosed, SharingAt, weight_by}
use Rattle.closing.proofs.Writing.{due, turn_elsewhere, written}
use Rattle.closing.proofs.billing_period.BillingPeriod.close_period.Goals as goal
use Rattle.closing.proofs.billing_period.BillingPeriod.close_period.Goals.{then-period, else-period}

pub give-requires : goal.give-requires
give-requires g c =
    let t = g.C.Calendar.timetable in
    let w = g.P.Profile.weights in
    let s = c.args.self.now in
    let p = c.args.period in
    let i = c.loop-place.place in
    let some = c.requires.begun in
    let asked : c.period.result ≡ period_at (case_in t w s) i = c.period.ensures ∙ ap (t s.calendar.now).period c.hour_at-hour.ensures in
    let weighed = c.weight_at.ensures ∙ ap (λ n. weight_by ((w s.profile.now).weight n) (get_or s.hours.now i None)) c.hour_at-hour.ensures in
    (case_in t w s, (some.0, (p, (i, due t w s p some.0 i c.period.result c.weight_at.result c.loop-place.share (c.loop-place.invariant some.0 some.1).0 c.loop-place-test.true asked c.if-period.true weighed))))

pub loop-place-preserved : goal.loop-place-preserved
loop-place-preserved g c =
    let t = g.C.Calendar.timetable in
    let w = g.P.Profile.weights in
    let s = c.args.self.now in
    let p = c.args.period in
    let i = c.loop-place.place in
    let asked : c.period.result ≡ period_at (case_in t w s) i = c.period.ensures ∙ ap (t s.calendar.now).period c.hour_at-hour.ensures in
    λ b at.
    let now = c.loop-place.invariant b at in
    elim c.if-period.branch [
      | then-period r ↦
          let weighed = r.weight_at.ensures ∙ ap (λ n. weight_by ((w s.profile.now).weight n) (get_or s.hours.now i None)) c.hour_at-hour.ensures in
          let d = due t w s p b i c.period.result r.weight_at.result c.loop-place.share now.0 c.loop-place-test.true asked r.if-period.true weighed in
          let gave = r.give.ensures (case_in t w s) b p i d in
          let room : i < length c.loop-place.places = omega (arith, c.requires.room, c.loop-place.auto.places, c.loop-place-test.true) in (
            subst (SharingAt (case_in t w s) b p (i + 1)) (sym r.share-is) gave.1,
            subst (PeriodClosed (case_in t w s) b p (i + 1) c.args.places.now) (sym r.places-is)
                (written t w s p b i c.args.places.now c.loop-place.places r.give.result now.1 d.here gave.0 room),
          )
      | else-period r ↦
          let turn = turn_elsewhere t w s p b i c.period.result c.loop-place.share c.args.places.now c.loop-place.places asked r.if-period.false now.0 now.1 in (
            subst (SharingAt (case_in t w s) b p (i + 1)) (sym r.share-is) turn.0,
            subst (PeriodClosed (case_in t w s) b p (i + 1) c.args.places.now) (sym r.places-is) turn.1,
          )
    ]
