use Rattle.std.proofs.Common.{◌+◌, ◌-◌, take}
use Rattle.std.proofs.lemmas.Result.{err_from_is_err_and}
use borrow.Rule.Slice.PartMut.{put_mid}
use Rattle.sorted_table.specs.Entries.{Puts, Rising}
use Rattle.sorted_table.proofs.Compared.{rising, sorted}
use Rattle.sorted_table.proofs.Placing.{all_put, area_fits, none_put}
use Rattle.sorted_table.proofs.Putting.{puts_rising}
use Rattle.sorted_table.proofs.table.SortedTable.put_run.Given as given
use Rattle.sorted_table.proofs.table.SortedTable.put_run.Goals as goal
use Rattle.sorted_table.proofs.table.SortedTable.put_run.Goals.{After-put_among}

all_in : (g : given.Over) (c : After-put_among g) → Rising g.K.Key.before (g.R.Run.items c.args.run) × Puts g.K.Key.before (take c.args.self.now.used c.args.self.now.places.now) (g.R.Run.items c.args.run) (take (c.args.self.now.used + c.in_ok-from.new) (put_mid c.in_ok-from.from (c.args.self.now.used + c.in_ok-from.new - c.in_ok-from.from) c.args.self.now.places.now c.put_among.new.area))
all_in g c = all_put g.K.Key.order _ _ c.args.self.now.within _ c.entries.ensures.value _ _ _ c.in_ok-from.ensures c.entries.ensures.ordered _ c.put_among.ensures

pub returns-in_err-from-clause-put : goal.returns-in_err-from-clause-put
returns-in_err-from-clause-put g c =
    let p = err_from_is_err_and c.from_residual.result c.from_residual.ensures.1 in
    rw (p.1, p.2) (none_put g.K.Key.order _ _ c.args.self.now.within _ c.entries.ensures.value _ (Unit {0}) c.in_err-from.field-0.0 _ c.in_err-from.ensures c.entries.ensures.ordered)

pub put_among-requires-clause-fits : goal.put_among-requires-clause-fits
put_among-requires-clause-fits g c = area_fits g.K.Key.order _ _ c.args.self.now.within _ c.entries.ensures.value _ _ _ c.in_ok-from.ensures

pub invariant_of-self-clause-ordered : goal.invariant_of-self-clause-ordered
invariant_of-self-clause-ordered g c = sorted g.K.Key.order _ (puts_rising g.K.Key.order (rising g.K.Key.order _ c.args.self.now.ordered) (all_in g (goal.at.invariant_of-self-clause-ordered g c).After-put_among).1)

pub returns-clause-put : goal.returns-clause-put
returns-clause-put g c = all_in g (goal.at.returns-clause-put g c).After-put_among
