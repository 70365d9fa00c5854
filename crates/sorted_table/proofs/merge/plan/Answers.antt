use Rattle.std.proofs.lemmas.Result.{err_from_is_err_and}
use Rattle.sorted_table.proofs.Placing.{planned_none, planned, not_planned}
use Rattle.sorted_table.proofs.merge.plan.Goals as goal

pub returns-in_default : goal.returns-in_default
returns-in_default g c = planned_none g.K.Key.order c.args.entries.now c.args.free (g.R.Run.items c.args.run) c.in_default.ensures.0

pub returns-in_err-new : goal.returns-in_err-new
returns-in_err-new g c =
    let p = err_from_is_err_and c.from_residual.result c.from_residual.ensures.1 in
    rw (p.1, p.2) (not_planned g.K.Key.order c.args.entries.now c.args.free (g.R.Run.items c.args.run) c.lower_bound-from.result c.in-Some.first (g.R.Run.items c.next.new.self) c.lower_bound-from.ensures.within c.lower_bound-from.ensures.parted.0 c.in-Some.ensures c.in_err-new.field-0.0 c.in_err-new.ensures)

pub returns : goal.returns
returns g c = planned g.K.Key.order c.args.entries.now c.args.free (g.R.Run.items c.args.run) c.lower_bound-from.result c.in-Some.first (g.R.Run.items c.next.new.self) c.lower_bound-from.ensures.within c.lower_bound-from.ensures.parted.0 c.in-Some.ensures c.in_ok-new.new c.in_ok-new.ensures
