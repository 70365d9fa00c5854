use Rattle.std.proofs.Common.{MatchOption, get_or, rules}
use Rattle.std.proofs.lemmas.Fn.{always_returns_same}
use Rattle.std.specs.List.{Contains}
use Rattle.sorted_table.specs.Entries.{entry, Lacks, Rising}
use Rattle.sorted_table.specs.Orders.{compared}
use Rattle.sorted_table.proofs.Compared.{one_answer, searched}
use Rattle.sorted_table.proofs.search.find_in.Given as given
use Rattle.sorted_table.proofs.search.find_in.Goals as goal
use Rattle.sorted_table.proofs.search.find_in.Goals.{After-ok}

-- the closure compares an entry's key
by_order : (g : given.Over) (c : After-ok g) → Rising g.K.Key.before c.args.entries.now → MatchOption c.ok.result (Lacks c.args.entries.now c.args.key.now) (λ i. (x : _) → Contains c.args.entries.now (entry c.args.key.now (get_or c.args.entries.now i x).value))
by_order g c up =
    let s = c.binary_search_by.ensures in
    rw c.ok.ensures.value (searched g.K.Key.order _ _ up _ s.bound (s.position (λ x. compared g.K.Key.order x.key c.args.key.now) (always_returns_same _ _ _ (λ x r f called. search (rules, one_answer g.K.Key.order)))))

pub returns-in_err-at : goal.returns-in_err-at
returns-in_err-at g c up = rw c.from_residual.ensures (rw c.in_err-at.was at (by_order g (goal.at.returns-in_err-at g c).After-ok up))

pub returns : goal.returns
returns g c up = (rw c.in_ok-at.was at (by_order g (goal.at.returns g c).After-ok up)) _
