use Rattle.std.proofs.Common.{◌≡◌, ℕ, false, not, eqb, sym, ap, ◌∙◌, rules}
use borrow.Author.Tests.{tests}
use Rattle.std.proofs.lemmas.Bool.{eq-eqb}
use Rattle.closing.specs.Billing.{source_number}
use Rattle.closing.specs.Testing.{hourless_by, unreal_by, weightless_by}
use Rattle.closing.proofs.Stops.{hourless_met, unreal_met, weightless_met}
use Rattle.closing.proofs.figures.BillingFigures.check_bill.Goals as goal

agree : (m n x y : ℕ) → x ≡ m → n ≡ y → x ≡ y → not (eqb m n) ≡ false
agree m n x y a b e = ap not (eq-eqb m n (sym a ∙ e ∙ sym b))

pub returns-then-some_period : goal.returns-then-some_period
returns-then-some_period c =
    λ k b come same.
    let e0 = agree _ _ _ _ same.periods come.periods c.if-billed-self.false in
    let e1 = hourless_met k b _ _ (c.some_period.ensures hourless_by (λ f x a h. search (rules, tests)) k b come same) c.if-some_period.true in
    rw (e0, e1)

pub returns-then-some_period-2 : goal.returns-then-some_period-2
returns-then-some_period-2 c =
    λ k b come same.
    let e0 = agree _ _ _ _ same.periods come.periods c.if-billed-self.false in
    let e1 = hourless_met k b _ _ (c.some_period.ensures hourless_by (λ f x a h. search (rules, tests)) k b come same) c.if-some_period.false in
    let e2 = unreal_met k b _ _ _ same.source (c.some_period-2.ensures (unreal_by (source_number c.args.billed.source)) (λ f x a h. search (rules, tests)) k b come same) c.if-some_period-2.true in
    rw (e0, e1, e2)

pub returns-then-some_period-3 : goal.returns-then-some_period-3
returns-then-some_period-3 c =
    λ k b come same.
    let e0 = agree _ _ _ _ same.periods come.periods c.if-billed-self.false in
    let e1 = hourless_met k b _ _ (c.some_period.ensures hourless_by (λ f x a h. search (rules, tests)) k b come same) c.if-some_period.false in
    let e2 = unreal_met k b _ _ _ same.source (c.some_period-2.ensures (unreal_by (source_number c.args.billed.source)) (λ f x a h. search (rules, tests)) k b come same) c.if-some_period-2.false in
    let e3 = weightless_met k b _ _ (c.some_period-3.ensures weightless_by (λ f x a h. search (rules, tests)) k b come same) c.if-some_period-3.true in
    rw (e0, e1, e2, e3)

pub returns : goal.returns
returns c =
    λ k b come same.
    let e0 = agree _ _ _ _ same.periods come.periods c.if-billed-self.false in
    let e1 = hourless_met k b _ _ (c.some_period.ensures hourless_by (λ f x a h. search (rules, tests)) k b come same) c.if-some_period.false in
    let e2 = unreal_met k b _ _ _ same.source (c.some_period-2.ensures (unreal_by (source_number c.args.billed.source)) (λ f x a h. search (rules, tests)) k b come same) c.if-some_period-2.false in
    let e3 = weightless_met k b _ _ (c.some_period-3.ensures weightless_by (λ f x a h. search (rules, tests)) k b come same) c.if-some_period-3.false in
    rw (e0, e1, e2, e3)
