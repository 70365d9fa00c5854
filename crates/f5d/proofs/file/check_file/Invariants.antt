use Rattle.std.proofs.Common.{◌≡◌, ◌-◌, ◌≤◌, List, length}
use Rattle.f5d.specs.Passing.{Knows, Passed}
use Rattle.f5d.specs.Records.{Record}
use Rattle.f5d.proofs.file.check_file.Given as goal

-- some records were passed, as many as lines
abbrev pub invariant-loop-at : goal.invariant-loop-at
invariant-loop-at l = (l.at ≤ length l.bytes) × (l.line ≤ l.at) × ((done : List Record) × Knows l.turns done × Passed l.bytes l.at done × (l.line ≡ length done))

abbrev pub decreases-loop-at : goal.decreases-loop-at
decreases-loop-at l = length l.bytes - l.at
