use Rattle.std.proofs.Common.{◌+◌, ◌∷◌, drop, set, sym, ap, ◌∙◌, subst, arith}
use Rattle.sorted_table.specs.Merged.{merged}
use Rattle.sorted_table.proofs.Passes.{Underway, after_equal, after_greater, after_less, finished, in_area, nothing}
use Rattle.sorted_table.proofs.merge.merge.Given as given
use Rattle.sorted_table.proofs.merge.merge.Goals as goal
use Rattle.sorted_table.proofs.merge.merge.Goals.{After-next-in-loop-area, in-Equal, in-Greater}

pub returns-in_default : goal.returns-in_default
returns-in_default g c = nothing g.K.Key.order c.args.area.now c.args.gap (g.R.Run.items c.args.run) c.requires.within c.requires.fits c.in_default.ensures.0

pub loop-area-preserved-in-Less : goal.loop-area-preserved-in-Less
loop-area-preserved-in-Less g c = after_less _ _ _ _ _ _ _ c.loop-area.invariant c.index-area-read.result c.index-area-read.is c.in-Less.ensures.stands

-- once an entry of the run is put
put_one : (g : given.Over) (c : After-next-in-loop-area g) → Underway g.K.Key.order (merged g.K.Key.order (drop c.args.gap c.args.area.now) (c.in-Some.coming ∷ g.R.Run.items c.next.new.self)) (set c.loop-area.area c.loop-area.write c.loop-area.coming) (c.loop-area.write + 1) c.match-order_at.read (g.R.Run.items c.loop-area.run)
put_one g c =
    elim c.match-order_at.branch [
      | in-Equal w ↦ rw w.read-is (after_equal _ _ _ _ _ _ _ c.loop-area.invariant w.in-Equal.ensures.stands)
      | in-Greater w ↦ rw w.read-is (after_greater _ _ _ _ _ _ _ c.loop-area.invariant w.in-Greater.ensures.stands)
    ]

pub loop-area-smaller : goal.loop-area-smaller
loop-area-smaller g c = let h = in_area _ _ _ _ _ _ _ c.loop-area.invariant in omega arith

pub loop-area-preserved : goal.loop-area-preserved
loop-area-preserved g c = subst (Underway _ _ _ _ _) c.in-Some-next.ensures (put_one g (goal.at.loop-area-preserved g c).After-next-in-loop-area)

pub returns-in_default-next : goal.returns-in_default-next
returns-in_default-next g c =
    finished g.K.Key.order _ _ _ c.match-order_at.read (subst (Underway _ _ _ _ _) c.in_default-next.ensures.0 (put_one g (goal.at.returns-in_default-next g c).After-next-in-loop-area))
    ∙ ap (λ run. merged g.K.Key.order (drop c.args.gap c.args.area.now) run) (sym c.in-Some.ensures)
