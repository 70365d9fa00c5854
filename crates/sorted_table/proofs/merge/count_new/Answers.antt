use Rattle.std.proofs.Common.{◌-◌, ◌∷◌, Ok, Err, MatchResult, sym, ◌∙◌, subst, rules}
use Rattle.std.proofs.lemmas.Result.{err_from_is_err_and}
use Rattle.sorted_table.specs.Entries.{Rising}
use Rattle.sorted_table.specs.Merged.{Counted}
use Rattle.sorted_table.proofs.Compared.{ge_not_before, not_ge_before}
use Rattle.sorted_table.proofs.Passes.{Ascending, Tally, ascending_more, counted_none, tally_equal, tally_less, tally_new, answered, ascending_all}
use Rattle.sorted_table.proofs.merge.count_new.Given as given
use Rattle.sorted_table.proofs.merge.count_new.Goals as goal
use Rattle.sorted_table.proofs.merge.count_new.Goals.{After-ok_or, After-next-in-loop-at, After-is_ge, in-Equal, in-Greater}

pub returns-in_default : goal.returns-in_default
returns-in_default g c = counted_none g.K.Key.order c.args.entries.now c.args.free (g.R.Run.items c.args.run) c.in_default.ensures.0

pub loop-at-preserved-in-Less : goal.loop-at-preserved-in-Less
loop-at-preserved-in-Less g c = (tally_less _ _ _ _ _ _ _ _ c.loop-at.invariant.0 c.in-Less.ensures.stands, c.loop-at.invariant.1)

-- the count once an entry of the run is seen
seen_one : (g : given.Over) (c : After-next-in-loop-at g) → Tally g.K.Key.order c.args.entries.now (c.in-Some.coming ∷ g.R.Run.items c.next.new.self) c.args.free c.match-order_at.at c.match-order_at.left (g.R.Run.items c.loop-at.run)
seen_one g c =
    elim c.match-order_at.branch [
      | in-Equal w ↦ rw (w.at-is, w.left-is) (tally_equal _ _ _ _ _ _ _ _ c.loop-at.invariant.0 w.in-Equal.ensures.stands)
      | in-Greater w ↦ rw (w.at-is, w.left-is) (tally_new _ _ _ _ _ _ _ _ c.loop-at.invariant.0 _ w.in-Greater.ensures.stands (search rules))
    ]

-- the answer once the run is gone through
all_seen : (g : given.Over) (c : After-ok_or g) → MatchResult c.ok_or.result (λ n. Counted g.K.Key.order c.args.entries.now c.args.free (g.R.Run.items c.args.run) (Ok (c.args.free - n))) (λ d. Counted g.K.Key.order c.args.entries.now c.args.free (g.R.Run.items c.args.run) (Err d))
all_seen g c =
    let none = c.in_default-next.ensures.0 in
    subst (λ run. MatchResult c.ok_or.result (λ n. Counted g.K.Key.order c.args.entries.now c.args.free run (Ok (c.args.free - n))) (λ d. Counted g.K.Key.order c.args.entries.now c.args.free run (Err d))) (sym c.in-Some.ensures)
    (answered g.K.Key.order _ _ _ _ _ none (ascending_all _ _ _ c.loop-at.invariant.1 none) _ _ c.ok_or.ensures.value (seen_one g (goal.at-After-ok_or g c).After-next-in-loop-at))

pub returns-in_err-left : goal.returns-in_err-left
returns-in_err-left g c =
    let p = err_from_is_err_and c.from_residual.result c.from_residual.ensures.1 in
    rw (p.1, p.2) (rw c.in_err-left.was at (all_seen g (goal.at.returns-in_err-left g c).After-ok_or))

pub returns-in_default-next : goal.returns-in_default-next
returns-in_default-next g c = rw c.in_ok-left.was at (all_seen g (goal.at.returns-in_default-next g c).After-ok_or)

-- the whole run ascends where it does so from the last entry seen
from_last : (g : given.Over) (c : After-is_ge g) → Ascending g.K.Key.before (c.in-Some.coming ∷ g.R.Run.items c.next.new.self) (c.loop-at.coming ∷ c.in-Some-next.after ∷ g.R.Run.items c.next-in-loop-at.new.self)
from_last g c = subst (λ run. Ascending g.K.Key.before (c.in-Some.coming ∷ g.R.Run.items c.next.new.self) (c.loop-at.coming ∷ run)) c.in-Some-next.ensures c.loop-at.invariant.1

pub loop-at-preserved : goal.loop-at-preserved
loop-at-preserved g c = (
  subst (Tally _ _ _ _ _ _) c.in-Some-next.ensures (seen_one g (goal.at.loop-at-preserved g c).After-next-in-loop-at),
  ascending_more g.K.Key.order _ _ _ _ (not_ge_before g.K.Key.order _ _ _ c.compare.ensures (search rules)) (from_last g (goal.at.loop-at-preserved g c).After-is_ge),
)

pub returns-then-is_ge : goal.returns-then-is_ge
returns-then-is_ge g c = λ up.
    let run = c.loop-at.invariant.1.back (subst (Rising g.K.Key.before) c.in-Some.ensures up) in
    let next = subst (λ zs. Rising g.K.Key.before (c.loop-at.coming ∷ zs)) c.in-Some-next.ensures run in
    ge_not_before g.K.Key.order _ _ c.compare.result c.compare.ensures (sym c.is_ge.ensures ∙ c.if-is_ge.true) next.0.0
