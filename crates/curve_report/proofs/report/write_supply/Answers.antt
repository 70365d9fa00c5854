use Rattle.std.proofs.Common.{◌≡◌, ◌++◌, map, get_or, string_bytes, refl, ap, ◌∙◌, append_assoc}
use Rattle.std.proofs.lemmas.Result.{IfOk-weaker}
use Rattle.f5d.specs.Meanings.{record_of}
use Rattle.curve_report.specs.Report.{supply_line}
use Rattle.curve_report.proofs.report.write_supply.Goals as goal

pub returns : goal.returns
returns c =
    let was = string_bytes c.args.out.now in
    let rs = map record_of c.args.records.now in
    IfOk-weaker c.write_days.result _ _
    (λ _ days first more e.
    let code : c.first-item.result.at.supply.bytes ≡ first.at.supply.bytes = ap (λ x. x.at.supply.bytes) c.first-item.is ∙ ap (λ l. (get_or l 0 c.first-item.result).at.supply.bytes) e in
    let line = supply_line first.at.supply.bytes rs in (
      line ++ days.0,
      record { days = days.0; pictures = days.1; written = refl },
      days.2 ∙ ap (λ t. t ++ days.0) (c.in_ok-write_line.ensures ∙ ap (λ s. was ++ supply_line s rs) code) ∙ append_assoc was line days.0,
    ))
    c.write_days.ensures
