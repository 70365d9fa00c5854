use Rattle.std.proofs.Common.{rules, ◌≡◌, true, false}
use Rattle.std.proofs.lemmas.Iterator.{cases_from_any, YieldsList-from_slice, YieldsList-from_take, YieldsList-from_zip}
use Rattle.std.proofs.lemmas.Iterator.Consumers.{YieldsList-at}
use borrow.Author.Tests.{tests}
use Rattle.closing.specs.Lent.{totals}
use Rattle.closing.proofs.Stops.{some_passes}
use Rattle.closing.proofs.figures.BillingFigures.some_period.Goals as goal

pub returns : goal.returns
returns g c =
    let f = c.args.self.now in
    let b = c.args.billed in
    λ test answers k bill come same.
    let any = cases_from_any c.any.new.self _ c.any.result (λ x. true ≡ test (totals x.0) x.1.0) (λ x. false ≡ test (totals x.0) x.1.0) c.any.ensures.ran
    (YieldsList-from_take f.periods (YieldsList-at c.take.ensures.source (YieldsList-from_zip (YieldsList-at c.zip.ensures.first (YieldsList-from_slice f.by_period cc)) (YieldsList-from_slice {s = c.zip.result.b} b.balance.kwh cc))) cc)
    (λ x q h. let p = answers x.0.now x.1.now true in search (rules, tests, p)) (λ x q h. let p = answers x.0.now x.1.now false in search (rules, tests, p)) in
    some_passes k bill test f b c.any.result (search rules) (search rules) any come same
