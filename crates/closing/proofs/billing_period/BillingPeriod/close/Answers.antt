use Rattle.std.proofs.Common.{◌∙◌}
use Rattle.closing.specs.Billing.{balances_of}
use Rattle.closing.specs.Cases.{case_in}
use Rattle.closing.specs.Closing.{bill}
use Rattle.closing.proofs.Bills.{refusal_answers, some_bill, tested}
use Rattle.closing.proofs.billing_period.BillingPeriod.close.Goals as goal

pub returns-in_err-check_bill-clause-answer : goal.returns-in_err-check_bill-clause-answer
returns-in_err-check_bill-clause-answer g c =
    let k = case_in g.C.Calendar.timetable g.P.Profile.weights c.args.self.now in
    let bs = balances_of c.args.balances in
    let come = c.figures-figures.ensures in
    let s = some_bill _ _ _ c.in_ok-billed.ensures.ok_part (c.choose_bill.ensures k come) in
    tested k bs _ s.0
    (refusal_answers c.from_residual-in_err-check_bill.result c.in_err-check_bill.field-0.0 c.from_residual-in_err-check_bill.ensures.1 ∙ c.in_err-check_bill.ensures k (bill k bs) come s.1)

pub close_all-requires : goal.close_all-requires
close_all-requires g c =
    let k = case_in g.C.Calendar.timetable g.P.Profile.weights c.args.self.now in
    let come = c.figures-figures.ensures in
    let s = some_bill _ _ _ c.in_ok-billed.ensures.ok_part (c.choose_bill.ensures k come) in
    record { room = c.requires.room; figures = come; billed = (bill k (balances_of c.args.balances), (s.1, c.requires.small)) }

pub returns : goal.returns
returns g c =
    let k = case_in g.C.Calendar.timetable g.P.Profile.weights c.args.self.now in
    let bs = balances_of c.args.balances in
    let come = c.figures-figures.ensures in
    let s = some_bill _ _ _ c.in_ok-billed.ensures.ok_part (c.choose_bill.ensures k come) in
    record { answer = tested k bs _ s.0 (c.in_ok-check_bill.ensures k (bill k bs) come s.1); curve = (s.1.source, c.close_all.ensures (bill k bs) s.1) }
