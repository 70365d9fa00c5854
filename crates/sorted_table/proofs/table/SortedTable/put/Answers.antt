use Rattle.std.proofs.Common.{arith, rules}
use Rattle.std.proofs.lemmas.List.{length-take}
use Rattle.sorted_table.proofs.Answering.{one_answered}
use Rattle.sorted_table.proofs.Compared.{rising}
use Rattle.sorted_table.proofs.table.SortedTable.put.Goals as goal

pub returns-clause-put : goal.returns-clause-put
returns-clause-put g c =
    let t = c.args.self.now in
    let s = c.put_run.new.self in
    one_answered g.K.Key.order _ _ _ _ _ (omega (arith, length-take t.used t.places.now)) (rising g.K.Key.order _ t.ordered) c.put_run.result c.map_err.result (search rules)
    (omega (arith, length-take s.used s.places.now, c.put_run.ensures.room)) c.put_run.ensures.put
