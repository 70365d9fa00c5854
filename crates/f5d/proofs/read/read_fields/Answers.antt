-- The reading goes from A to the label, and from there to the energy.
use Rattle.std.proofs.Common.{◌≡◌, ℕ, List, length, drop, sym, ap, ◌∙◌, arith}
use Rattle.std.proofs.lemmas.List.{drop-drop, length-drop}
use Rattle.std.proofs.lemmas.Result.{err_from_is_err_and}
use Rattle.f5d.specs.Meanings.{billed_record}
use Rattle.f5d.specs.Reading.{bad, good, read_energy, read_label}
use Rattle.f5d.proofs.Stepping.{supply_off, supply_on, tail, tail_from}
use Rattle.f5d.specs.Told.{place_of}
use Rattle.f5d.proofs.Tries.{told_error}
use Rattle.vocabulary.specs.declared.refusal.Field.TheVariants.{Supply}
use Rattle.f5d.proofs.read.read_fields.Goals as goal

-- behind A and the label
label_behind : (b : List ℕ) → drop 19 (tail b 23) ≡ tail b 42
label_behind b = ap (drop 19) (tail_from b 23) ∙ drop-drop 19 23 b ∙ sym (tail_from b 42)

pub returns-in_err-supply : goal.returns-in_err-supply
returns-in_err-supply c =
    let p = err_from_is_err_and c.from_residual.result c.from_residual.ensures.1 in
    let off = simp c.in_err-supply.ensures.ok_part at c.supply_field.ensures in
    let field = told_error c.supply_field.result Supply c.in_err-supply.field-0.0 c.in_err-supply.ensures.ok_part c.in_err-supply.ensures.value in
    rw (p.1, p.2) (record { told = ap (λ x. bad (place_of x)) field ∙ supply_off c.args.bytes.now off; within = tt })

pub returns-in_err-hour : goal.returns-in_err-hour
returns-in_err-hour c =
    let b = c.args.bytes.now in
    let right = simp c.in_ok-supply.ensures.ok_part at c.supply_field.ensures in
    let p = err_from_is_err_and c.from_residual-in_err-hour.result c.from_residual-in_err-hour.ensures.1 in
    rw (p.1, p.2)
    (record { told = c.in_err-hour.ensures.told c.in_ok-supply.supply.bytes ∙ (λ i. read_label (right.1 i) (tail_from b 23 i)) ∙ supply_on b right.0; within = tt })

pub returns-in_err-fields : goal.returns-in_err-fields
returns-in_err-fields c =
    let b = c.args.bytes.now in
    let supply = c.in_ok-supply.supply.bytes in
    let hour = c.in_ok-hour.hour.number in
    let right = simp c.in_ok-supply.ensures.ok_part at c.supply_field.ensures in
    let p = err_from_is_err_and c.from_residual-in_err-fields.result c.from_residual-in_err-fields.ensures.1 in
    rw (p.1, p.2)
    (record {
      told =
          c.in_err-fields.ensures.told supply hour ∙ ap (read_energy supply hour) (sym (label_behind b)) ∙ c.in_ok-hour.ensures.told supply ∙ (λ i. read_label (right.1 i) (tail_from b 23 i))
          ∙ supply_on b right.0;
      within = tt;
    })

pub returns : goal.returns
returns c =
    let b = c.args.bytes.now in
    let supply = c.in_ok-supply.supply.bytes in
    let hour = c.in_ok-hour.hour.number in
    let fields = c.in_ok-fields.fields in
    let right = simp c.in_ok-supply.ensures.ok_part at c.supply_field.ensures in
    let rest = ap length (tail_from b 42) ∙ length-drop 42 b in
    record {
      told =
          (λ i. good (billed_record supply hour fields.value) ((sym (drop-drop fields.length 42 b) ∙ ap (drop fields.length) (sym (tail_from b 42))) i))
          ∙ c.in_ok-fields.ensures.told supply hour
          ∙ ap (read_energy supply hour) (sym (label_behind b))
          ∙ c.in_ok-hour.ensures.told supply
          ∙ (λ i. read_label (right.1 i) (tail_from b 23 i))
          ∙ supply_on b right.0;
      within = omega (arith, c.in_ok-fields.ensures.within, c.in_ok-hour.ensures.within, ap length (tail_from b 23) ∙ length-drop 23 b);
    }
