use Rattle.std.proofs.Common.{[]}
use Rattle.sorted_table.proofs.Compared.{sorted}
use Rattle.sorted_table.proofs.table.SortedTable.new.Goals as goal

pub invariant_of-result-clause-ordered : goal.invariant_of-result-clause-ordered
invariant_of-result-clause-ordered g c = sorted g.K.Key.order [] tt
