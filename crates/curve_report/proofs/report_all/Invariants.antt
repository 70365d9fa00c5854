use Rattle.std.proofs.Common.{length}
use Rattle.curve_report.proofs.report_all.Given as goal

abbrev pub decreases-loop-out : goal.decreases-loop-out
decreases-loop-out l = length l.records.rest.now
