use Rattle.std.proofs.Common.{◌+◌, ◌<◌, ◌≤◌, length, sym, refl, subst, arith}
use Rattle.closing.specs.Cases.{case_in}
use Rattle.closing.proofs.Stops.{figures_at, kwh_at}
use Rattle.closing.proofs.Whole.{all_closed, period_more}
use Rattle.closing.proofs.billing_period.BillingPeriod.close_all.Goals as goal

pub begin-share-requires : goal.begin-share-requires
begin-share-requires g c =
    let k = case_in g.C.Calendar.timetable g.P.Profile.weights c.args.self.now in
    let i = c.loop-i.i in
    let l : i < 3 = omega (arith, c.loop-i-test.true, c.args.figures.now.three) in
    let some = c.requires.billed in
    subst (λ x. x ≤ 82500) (sym (kwh_at k some.0 c.args.billed some.1.0 i l _ refl)) (some.1.1 (i + 1))

pub close_period-requires : goal.close_period-requires
close_period-requires g c =
    let k = case_in g.C.Calendar.timetable g.P.Profile.weights c.args.self.now in
    let i = c.loop-i.i in
    let l : i < 3 = omega (arith, c.loop-i-test.true, c.args.figures.now.three) in
    let some = c.requires.billed in
    record {
      room = omega (arith, c.requires.room, c.loop-i.auto.places);
      begun = (some.0, c.begin-share.ensures k some.0 (i + 1) (figures_at k c.args.figures.now.by_period c.requires.figures.by_period i l _) some.1.0.source (kwh_at k some.0 c.args.billed some.1.0 i l _ refl));
    }

pub loop-i-preserved : goal.loop-i-preserved
loop-i-preserved g c =
    let k = case_in g.C.Calendar.timetable g.P.Profile.weights c.args.self.now in
    let i = c.loop-i.i in
    let l : i < 3 = omega (arith, c.loop-i-test.true, c.args.figures.now.three) in
    λ b same.
    period_more k b (length c.args.self.now.hours.now) i c.args.places.now c.loop-i.places c.close_period.new.places (c.loop-i.invariant b same)
    (c.close_period.ensures b (c.begin-share.ensures k b (i + 1) (figures_at k c.args.figures.now.by_period c.requires.figures.by_period i l _) same.source (kwh_at k b c.args.billed same i l _ refl)))

pub returns : goal.returns
returns g c =
    let k = case_in g.C.Calendar.timetable g.P.Profile.weights c.args.self.now in
    λ b same. all_closed k b (length c.args.self.now.hours.now) c.loop-i.i c.args.places.now c.loop-i.places (omega (arith, c.requires.figures.periods)) (c.loop-i.invariant b same)
