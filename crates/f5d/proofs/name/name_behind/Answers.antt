use borrow.Author.Tests.{clash}
use Rattle.std.proofs.Common.{sym, ap, ◌∙◌}
use Rattle.official_time.specs.Dates.{is_date}
use Rattle.f5d.specs.FileNames.{name_of, name_told}
use Rattle.f5d.specs.Names.{named_behind, version_written}
use Rattle.f5d.specs.Reading.{number}
use Rattle.f5d.proofs.FileNames.{Behind, behind_off, behind_on}
use Rattle.f5d.proofs.Tries.{name_or_none, passed}
use Rattle.f5d.proofs.Stepping.{tail_from}
use Rattle.f5d.proofs.name.name_behind.Goals as goal

pub returns-then-not-is_parted : goal.returns-then-not-is_parted
returns-then-not-is_parted c =
    let b = c.args.bytes.now in
    behind_off c.args.word b (λ h. clash (sym c.if-not-is_parted.true ∙ c.is_parted.ensures.value ∙ h.parts))

pub returns-then-not-is_dated : goal.returns-then-not-is_dated
returns-then-not-is_dated c =
    let b = c.args.bytes.now in
    behind_off c.args.word b (λ h. clash (sym c.if-not-is_dated.true ∙ c.is_dated.ensures ∙ h.digits))

pub returns-in_err-version : goal.returns-in_err-version
returns-in_err-version c =
    let b = c.args.bytes.now in
    rw c.from_residual-in_err-version.ensures (behind_off c.args.word b (λ h. clash (sym c.in_err-version.ensures ∙ ap version_written (tail_from b 20) ∙ h.version)))

pub returns : goal.returns
returns c =
    let b = c.args.bytes.now in
    let word = c.args.word in
    let version = c.in_ok-version.ensures in
    let distributor = passed _ _ c.try_from.result c.in_ok-distributor.distributor c.in_ok-distributor.ensures.value c.try_from.ensures in
    let retailer = passed _ _ c.try_from-2.result c.in_ok-retailer.retailer c.in_ok-retailer.ensures.value c.try_from-2.ensures in
    ap name_told c.ok-3.ensures.value
    ∙ name_or_none _ _ (named_behind word b) c.new.result
    (λ n made.
    let there : Behind b = record {
      parts = sym c.is_parted.ensures.value ∙ c.if-not-is_parted.false;
      digits = sym c.is_dated.ensures ∙ c.if-not-is_dated.false;
      distributor = distributor.1;
      retailer = retailer.1;
      date = ap is_date (sym c.date_at.ensures) ∙ made.0;
      version = ap version_written (sym (tail_from b 20)) ∙ version.0;
    } in
    behind_on b (name_of n) there (ap (λ d. d.bytes) made.2 ∙ distributor.0) (ap (λ d. d.bytes) made.3 ∙ retailer.0) (made.4 ∙ c.date_at.ensures)
    (made.5 ∙ version.1 ∙ ap (number 0) (tail_from b 20))
    ∙ ap (λ w. named_behind w b) made.1)
    (λ e refused. behind_off word b (λ h. clash (sym refused.1 ∙ ap is_date c.date_at.ensures ∙ h.date)))
    c.new.ensures
