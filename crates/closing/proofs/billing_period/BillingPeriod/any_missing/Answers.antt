use Rattle.std.proofs.Common.{refl, ◌∙◌}
use Rattle.closing.proofs.Figuring.{missing_is}
use Rattle.closing.proofs.billing_period.BillingPeriod.any_missing.Goals as goal

pub returns : goal.returns
returns g c = c.contains.ensures.value ∙ missing_is _ c.args.self.now.hours.now refl (λ x. refl)
