use Rattle.std.proofs.Common.{◌≡◌, ℕ, List, ◌++◌, map, length, string_bytes}
use Rattle.f5d.specs.Meanings.{record_of}
use Rattle.curve_report.specs.Report.{Days}
use Rattle.curve_report.proofs.days.write_days.Given as goal

-- the pictures so far, and those of the days that are left, are those of all
abbrev pub invariant-loop-rest : goal.invariant-loop-rest
invariant-loop-rest l =
    (done : List ℕ) × (string_bytes l.out ≡ string_bytes l.initial.out ++ done)
    × ((more : List ℕ) → Days (map record_of l.rest) more → Days (map record_of l.records) (done ++ more))

abbrev pub decreases-loop-rest : goal.decreases-loop-rest
decreases-loop-rest l = length l.rest
