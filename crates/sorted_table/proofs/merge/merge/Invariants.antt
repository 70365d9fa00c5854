use Rattle.std.proofs.Common.{◌-◌, ◌∷◌, length, drop}
use Rattle.sorted_table.specs.Merged.{merged}
use Rattle.sorted_table.proofs.Passes.{Underway}
use Rattle.sorted_table.proofs.merge.merge.Given as goal

abbrev pub invariant-loop-area : goal.invariant-loop-area
invariant-loop-area g l =
    Underway g.K.Key.order (merged g.K.Key.order (drop l.gap l.initial.area) (l.initial.coming ∷ g.R.Run.items l.initial.run)) l.area l.write
    l.read (l.coming ∷ g.R.Run.items l.run)

abbrev pub decreases-loop-area : goal.decreases-loop-area
decreases-loop-area g l = length l.initial.area - l.write
