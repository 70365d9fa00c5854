use Rattle.std.proofs.Common.{◌∙◌}
use Rattle.f5d.proofs.Stepping.{invoice_not_refused, invoice_tested}
use Rattle.f5d.proofs.Tries.{lost, passed}
use Rattle.f5d.proofs.read.invoice_field.Goals as goal

pub returns-then-not-is_line_end : goal.returns-then-not-is_line_end
returns-then-not-is_line_end c =
    invoice_tested c.args.bytes.now c.leading-length.result c.is_line_end.result c.leading-length.ensures.value c.is_line_end.ensures.value ∙ c.if-not-is_line_end.true

pub returns-in_err-value : goal.returns-in_err-value
returns-in_err-value c =
    lost _ _ c.try_from.result c.in_err-value.ensures.value
    (λ e refused. absurd (invoice_not_refused c.args.bytes.now c.leading-length.result c.leading-length.ensures.value (c.is_line_end.ensures.within c.if-not-is_line_end.false).0 refused.1)) c.try_from.ensures

pub returns : goal.returns
returns c =
    let bytes = c.args.bytes.now in
    let count = c.leading-length.result in (
      invoice_tested bytes count c.is_line_end.result c.leading-length.ensures.value c.is_line_end.ensures.value ∙ c.if-not-is_line_end.false,
      c.leading-length.ensures.value,
      (passed _ _ c.try_from.result c.in_ok-value.value c.in_ok-value.ensures.value c.try_from.ensures).0,
      (c.is_line_end.ensures.within c.if-not-is_line_end.false).1,
    )
