use Rattle.std.proofs.Common.{◌+◌, ◌-◌, ◌∷◌, length}
use Rattle.sorted_table.proofs.Passes.{Ascending, Tally}
use Rattle.sorted_table.proofs.merge.count_new.Given as goal

abbrev pub invariant-loop-at : goal.invariant-loop-at
invariant-loop-at g l =
    Tally g.K.Key.order l.entries (l.initial.coming ∷ g.R.Run.items l.initial.run) l.free l.at l.left (l.coming ∷ g.R.Run.items l.run)
    × Ascending g.K.Key.before (l.initial.coming ∷ g.R.Run.items l.initial.run) (l.coming ∷ g.R.Run.items l.run)

abbrev pub decreases-loop-at : goal.decreases-loop-at
decreases-loop-at g l = (length l.entries - l.at) + length (g.R.Run.items l.run)
