use Rattle.std.proofs.Common.{arith}
use Rattle.curve_report.proofs.Pictures.{on_day_within}
use Rattle.curve_report.proofs.days.signs.Goals as goal

pub overflow_sub-place : goal.overflow_sub-place
overflow_sub-place c =
    let h = c.of-hours.result in
    let here = on_day_within c.args.day.number c.args.records.now c.loop-record.record-index c.record-item.result h.first.number h.last.number c.of-hours.ensures.all c.requires c.loop-record-test.true c.record-item.is in
    omega (arith, here.0, c.number-first.ensures.value, c.number.ensures.value)

pub index_mut-requires : goal.index_mut-requires
index_mut-requires c =
    let h = c.of-hours.result in
    let here = on_day_within c.args.day.number c.args.records.now c.loop-record.record-index c.record-item.result h.first.number h.last.number c.of-hours.ensures.all c.requires c.loop-record-test.true c.record-item.is in
    omega (arith, here.0, here.1, c.number-first.ensures.value, c.number-last.ensures.value, c.number.ensures.value, c.loop-record.invariant.long, c.loop-record.signs.ok.0)
