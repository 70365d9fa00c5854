use Rattle.sorted_table.proofs.Compared.{rising}
use Rattle.sorted_table.proofs.table.SortedTable.entries.Goals as goal

pub returns-clause-ordered : goal.returns-clause-ordered
returns-clause-ordered g c = rising g.K.Key.order _ c.args.self.now.ordered
