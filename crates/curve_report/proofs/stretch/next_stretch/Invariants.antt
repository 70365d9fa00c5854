use Rattle.std.proofs.Common.{◌≡◌, ◌≤◌, true, List, ◌++◌, map, length, vec_items}
use Rattle.f5d.specs.Meanings.{record_of}
use Rattle.f5d.specs.Records.{can_bear, every_record, Lines, Record}
use Rattle.curve_report.specs.Report.{of_supply}
use Rattle.curve_report.proofs.stretch.next_stretch.Given as goal

-- the records that were taken are of the supply, and the others are left
abbrev pub invariant-loop-next : goal.invariant-loop-next
invariant-loop-next l =
    (taken : List Record) × (map record_of (vec_items l.stretch) ≡ map record_of (vec_items l.initial.stretch) ++ taken) × (every_record (of_supply l.first.at.supply.bytes) taken ≡ true)
    × ((rs : List Record) → Lines rs l.initial.records.rest.now → every_record can_bear rs ≡ true → (others : List Record) × (rs ≡ taken ++ others) × Lines others l.records.rest.now × (every_record can_bear others ≡ true))
    × (length l.records.rest.now ≤ length l.initial.records.rest.now)

abbrev pub decreases-loop-next : goal.decreases-loop-next
decreases-loop-next l = length l.records.rest.now
