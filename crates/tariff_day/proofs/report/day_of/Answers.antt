use Rattle.std.proofs.Common.{sym, ap, ◌∙◌}
use Rattle.std.proofs.lemmas.Result.{MatchResult-weaker, err_from_is_err_and}
use Rattle.std.proofs.lemmas.Bool.{both_ways}
use Rattle.official_time.specs.Dates.{is_date}
use Rattle.official_time.proofs.Texts.{real_short}
use Rattle.tariff_day.proofs.report.day_of.Goals as goal

pub returns-in_err-try_from : goal.returns-in_err-try_from
returns-in_err-try_from c =
    let p = err_from_is_err_and c.from_residual.result c.from_residual.ensures.1 in
    let e = c.in_err-try_from.ensures in
    rw (p.1, p.2) (e.0, λ d day. e.1 day.date (real_short day.date day.real) day.written)

pub returns : goal.returns
returns c =
    let x = c.in_ok-try_from.field-0 in
    let r = c.in_ok-try_from.ensures in
    MatchResult-weaker c.day.result c.day.ensures.cases (λ d p. record { date = x; written = r.1; real = p.0; here = sym p.1 })
    (λ e q. (q.1, λ d day. both_ways (is_date x) q.0 (sym (ap is_date (r.2 day.date (real_short day.date day.real) day.written)) ∙ day.real)))
