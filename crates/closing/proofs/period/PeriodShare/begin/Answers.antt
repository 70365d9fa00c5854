use Rattle.std.proofs.Common.{cond, eqb, ap, ◌∙◌, ap₂}
use Rattle.closing.specs.Lent.{totals}
use Rattle.closing.specs.Periods.{method_by, total_by}
use Rattle.closing.proofs.Beginning.{begun}
use Rattle.closing.proofs.period.PeriodShare.begin.Goals as goal

pub returns : goal.returns
returns c =
    let f = c.args.figures in
    let r = c.of-rule.result in
    λ k b p ef es ek.
    begun k b p r f c.args.kwh.0 c.requires ef ek c.of-rule.ensures c.new.result
    (c.new.ensures.total ∙ c.to_share.ensures ∙ ap (total_by r (totals f)) c.from.ensures)
    (c.new.ensures.even ∙ ap (λ x. eqb x 0) c.weights.ensures)
    (c.new.ensures.sum ∙ ap₂ (λ x y. cond (eqb x 0) y x) c.weights.ensures c.count.ensures)
    c.new.ensures.past c.missing_method.result (c.missing_method.ensures ∙ ap method_by es)
