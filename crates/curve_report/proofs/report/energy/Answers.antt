use Rattle.std.proofs.Common.{◌≡◌, map, sym, refl, ◌∙◌, rules}
use Rattle.std.specs.List.{sum_by}
use Rattle.std.proofs.lemmas.List.Recursion.{is_sum_by}
use Rattle.f5d.specs.Meanings.{record_of}
use Rattle.f5d.specs.declared.hours.HourRecord.{HourRecord}
use Rattle.curve_report.specs.Report.{energy as energy_of}
use Rattle.curve_report.proofs.report.energy.Goals as goal

pub returns : goal.returns
returns c =
    let sum : c.sum.result ≡ sum_by (λ (r : HourRecord). r.billed.energy.0) c.args.records.now = search rules in
    sum ∙ sym (is_sum_by (λ rs. energy_of (map record_of rs)) (λ r. r.billed.energy.0) refl (λ _ _. refl) c.args.records.now)
