use Rattle.std.proofs.Common.{MatchOption, subst}
use Rattle.std.specs.List.{Contains}
use Rattle.sorted_table.specs.Entries.{entry, Lacks}
use Rattle.sorted_table.proofs.table.SortedTable.get.Goals as goal

pub returns : goal.returns
returns g c = subst (λ xs. MatchOption c.find_in.result (Lacks xs c.args.key.now) (λ value. Contains xs (entry c.args.key.now value.now))) c.entries.ensures.value (c.find_in.ensures c.entries.ensures.ordered)
