use Rattle.std.proofs.Common.{◌≡◌, IsAscii, map, length, drop, replicate, vec_items}
use Rattle.f5d.specs.Meanings.{record_of}
use Rattle.curve_report.specs.Report.{with_signs}
use Rattle.curve_report.proofs.days.signs.Given as goal

-- what is left of the records gives the other signs
abbrev pub invariant-loop-record : goal.invariant-loop-record
invariant-loop-record l = record {
  value : with_signs l.first (map record_of (drop l.record-index l.records)) (vec_items l.signs) ≡ with_signs l.first (map record_of l.records) (replicate l.count 46);
  ascii : IsAscii (vec_items l.signs);
  long : length (vec_items l.signs) ≡ l.count;
}
