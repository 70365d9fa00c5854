use Rattle.std.proofs.Common.{rules, ◌≡◌, ◌∙◌, ap, ap₂, sym, subst}
use Rattle.std.specs.Option.{option_or}
use Rattle.closing.specs.Billing.{balances_of, SameBill}
use Rattle.closing.specs.Closing.{billed}
use Rattle.closing.proofs.Bills.{chosen_bill, in_order}
use Rattle.closing.proofs.figures.BillingFigures.choose_bill.Goals as goal

pub returns : goal.returns
returns c =
    let e : c.or-5.result ≡ in_order c.args.balances c.then_some-hours.result =
    c.or-5.ensures ∙ ap₂ option_or (c.or-4.ensures ∙ ap₂ option_or (c.or-3.ensures ∙ ap₂ option_or (c.or-2.ensures ∙ ap₂ option_or (c.or.ensures ∙ ap₂ option_or c.bill.ensures c.bill-2.ensures)
    c.bill-3.ensures) c.bill-4.ensures) c.bill-5.ensures) c.bill-6.ensures in
    λ k same.
    subst (SameBill (billed k (balances_of c.args.balances))) (sym (e ∙ ap (in_order c.args.balances) c.then_some-hours.ensures))
    (chosen_bill k c.args.self.now c.map.result same (λ i d x l. let h = c.map.ensures.items.at i d x l in search rules) c.args.balances)
