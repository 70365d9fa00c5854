use Rattle.std.proofs.Common.{[], ◌∷◌, ◌++◌, string_bytes, ◌∙◌}
use Rattle.std.proofs.lemmas.Result.{IfOk-weaker}
use Rattle.tariff_day.specs.Report.{hours, no_date}
use Rattle.vocabulary.specs.Refusals.{plain, told}
use Rattle.tariff_day.proofs.report.answer.Goals as goal

pub returns-in-Ok : goal.returns-in-Ok
returns-in-Ok c = IfOk-weaker c.write_day.result _ _ (λ _ w. (w.0, hours c.in-Ok.ensures w.1, w.2)) c.write_day.ensures

pub returns-in-Err : goal.returns-in-Err
returns-in-Err c = IfOk-weaker c.writeln.result _ _ (λ _ e. (told (plain 16) ++ 10 ∷ [], no_date c.in-Err.ensures.1, e ∙ (λ i. string_bytes c.args.out.now ++ (told (c.in-Err.ensures.0 i) ++ 10 ∷ [])))) c.writeln.ensures.bytes
