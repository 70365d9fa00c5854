use Rattle.std.proofs.Common.{◌≡◌, ℕ, List, ◌++◌, string_bytes}
use Rattle.tariff_day.specs.Report.{Lines}
use Rattle.tariff_day.proofs.report.write_day.Given as goal

abbrev pub invariant-loop-number : goal.invariant-loop-number
invariant-loop-number l = (bytes : List ℕ) × Lines l.td.holidays.items.now l.initial.number l.number bytes × (string_bytes l.out ≡ string_bytes l.initial.out ++ bytes)
