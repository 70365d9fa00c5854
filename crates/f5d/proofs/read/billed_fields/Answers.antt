-- The reading goes from field to field, each behind the one before.
use Rattle.std.proofs.Common.{◌≡◌, ℕ, ◌+◌, ◌<◌, ◌≤◌, List, length, drop, sym, ap, ◌∙◌, arith}
use Rattle.std.proofs.lemmas.List.{drop-drop, length-drop}
use Rattle.std.proofs.lemmas.Result.{err_from_is_err_and}
use Rattle.f5d.specs.Meanings.{invoice_text}
use Rattle.vocabulary.specs.Methods.{firmness_number, method_number}
use Rattle.f5d.specs.Reading.{bad, good, read_invoice}
use Rattle.f5d.specs.Told.{invoice_right, place_of}
use Rattle.f5d.proofs.Stepping.{energy_on, firmness_off, firmness_on, invoice_off, invoice_on, method_off, method_on, tail, tail_from}
use Rattle.f5d.proofs.Tries.{told_error}
use Rattle.vocabulary.specs.declared.refusal.Field.TheVariants.{Firmness, Invoice, Method}
use Rattle.f5d.proofs.read.billed_fields.Goals as goal

-- from D's end by the fields between and L to the line's end
behind : (b : List ℕ) (count n : ℕ) → drop (n + 2) (tail (tail b (count + 1)) 9) ≡ drop (count + n + 12) b
behind b count n =
    ap (drop (n + 2)) (tail_from (tail b (count + 1)) 9 ∙ ap (drop 9) (tail_from b (count + 1))) ∙ ap (drop (n + 2)) (drop-drop 9 (count + 1) b) ∙ drop-drop (n + 2) (count + 1 + 9) b ∙ ap (λ k. drop k b) (omega arith)

-- and it is within the bytes
within_bytes : (b : List ℕ) (count n : ℕ) → count < length b → n + 2 ≤ length (tail (tail b (count + 1)) 9) → count + n + 12 ≤ length b
within_bytes b count n c l =
    let rest = ap length (tail_from (tail b (count + 1)) 9 ∙ ap (drop 9) (tail_from b (count + 1)) ∙ drop-drop 9 (count + 1) b) ∙ length-drop (count + 1 + 9) b in
    omega arith

pub returns-in_err-empty_fields : goal.returns-in_err-empty_fields
returns-in_err-empty_fields c =
    let b = c.args.bytes.now in
    let active = c.in_ok-active.active in
    let right = simp c.in_ok-active.ensures.ok_part at c.energy_field.ensures in
    let wh = active.value.0 in
    let p = err_from_is_err_and c.from_residual-in_err-empty_fields.result c.from_residual-in_err-empty_fields.ensures.1 in
    rw (p.1, p.2)
    (record {
      told = λ supply hour. sym (energy_on supply hour b (tail b (active.length + 1)) active.length wh right.0 right.1 right.2 (tail_from b (active.length + 1)) ∙ c.in_err-empty_fields.ensures supply hour wh);
      within = tt;
    })

pub returns-in_err-method : goal.returns-in_err-method
returns-in_err-method c =
    let b = c.args.bytes.now in
    let active = c.in_ok-active.active in
    let right = simp c.in_ok-active.ensures.ok_part at c.energy_field.ensures in
    let wh = active.value.0 in
    let rest = tail b (active.length + 1) in
    let p = err_from_is_err_and c.from_residual-in_err-method.result c.from_residual-in_err-method.ensures.1 in
    let off = simp c.in_err-method.ensures.ok_part at c.method_field.ensures in
    let field = told_error c.method_field.result Method c.in_err-method.field-0.0 c.in_err-method.ensures.ok_part c.in_err-method.ensures.value in
    rw (p.1, p.2)
    (record {
      told = λ supply hour.
          ap (λ x. bad (place_of x)) field
          ∙ sym (energy_on supply hour b rest active.length wh right.0 right.1 right.2 (tail_from b (active.length + 1)) ∙ c.in_ok-empty_fields.ensures supply hour wh
          ∙ method_off supply hour wh rest off);
      within = tt;
    })

pub returns-in_err-firmness : goal.returns-in_err-firmness
returns-in_err-firmness c =
    let b = c.args.bytes.now in
    let active = c.in_ok-active.active in
    let right = simp c.in_ok-active.ensures.ok_part at c.energy_field.ensures in
    let wh = active.value.0 in
    let rest = tail b (active.length + 1) in
    let method = simp c.in_ok-method.ensures.ok_part at c.method_field.ensures in
    let m = method_number c.in_ok-method.method in
    let p = err_from_is_err_and c.from_residual-in_err-firmness.result c.from_residual-in_err-firmness.ensures.1 in
    let off = simp c.in_err-firmness.ensures.ok_part at c.firmness_field.ensures in
    let field = told_error c.firmness_field.result Firmness c.in_err-firmness.field-0.0 c.in_err-firmness.ensures.ok_part c.in_err-firmness.ensures.value in
    rw (p.1, p.2)
    (record {
      told = λ supply hour.
          ap (λ x. bad (place_of x)) field
          ∙ sym (energy_on supply hour b rest active.length wh right.0 right.1 right.2 (tail_from b (active.length + 1)) ∙ c.in_ok-empty_fields.ensures supply hour wh
          ∙ method_on supply hour wh rest m method.0 method.1 ∙ firmness_off supply hour wh rest m off);
      within = tt;
    })

pub returns-in_err-end : goal.returns-in_err-end
returns-in_err-end c =
    let b = c.args.bytes.now in
    let active = c.in_ok-active.active in
    let right = simp c.in_ok-active.ensures.ok_part at c.energy_field.ensures in
    let wh = active.value.0 in
    let rest = tail b (active.length + 1) in
    let method = simp c.in_ok-method.ensures.ok_part at c.method_field.ensures in
    let m = method_number c.in_ok-method.method in
    let firmness = simp c.in_ok-firmness.ensures.ok_part at c.firmness_field.ensures in
    let f = firmness_number c.in_ok-firmness.firmness in
    let p = err_from_is_err_and c.from_residual-in_err-end.result c.from_residual-in_err-end.ensures.1 in
    let off = simp c.in_err-end.ensures.ok_part at c.invoice_field.ensures in
    let field = told_error c.invoice_field.result Invoice c.in_err-end.field-0.0 c.in_err-end.ensures.ok_part c.in_err-end.ensures.value in
    rw (p.1, p.2)
    (record {
      told = λ supply hour.
          ap (λ x. bad (place_of x)) field
          ∙ sym (energy_on supply hour b rest active.length wh right.0 right.1 right.2 (tail_from b (active.length + 1)) ∙ c.in_ok-empty_fields.ensures supply hour wh
          ∙ method_on supply hour wh rest m method.0 method.1 ∙ firmness_on supply hour wh rest m f firmness.0 firmness.1 ∙ invoice_off supply hour wh rest m f (drop 9 rest) (ap invoice_right (sym (tail_from rest 9)) ∙ off));
      within = tt;
    })

pub returns : goal.returns
returns c =
    let b = c.args.bytes.now in
    let active = c.in_ok-active.active in
    let right = simp c.in_ok-active.ensures.ok_part at c.energy_field.ensures in
    let wh = active.value.0 in
    let rest = tail b (active.length + 1) in
    let method = simp c.in_ok-method.ensures.ok_part at c.method_field.ensures in
    let m = method_number c.in_ok-method.method in
    let firmness = simp c.in_ok-firmness.ensures.ok_part at c.firmness_field.ensures in
    let f = firmness_number c.in_ok-firmness.firmness in
    let end = c.in_ok-end.end in
    let ended = simp c.in_ok-end.ensures.ok_part at c.invoice_field.ensures in
    let same = c.of-billed.ensures in
    let n = end.length in
    record {
      told = λ supply hour.
          sym (energy_on supply hour b rest active.length wh right.0 right.1 right.2 (tail_from b (active.length + 1)) ∙ c.in_ok-empty_fields.ensures supply hour wh
          ∙ method_on supply hour wh rest m method.0 method.1 ∙ firmness_on supply hour wh rest m f firmness.0 firmness.1 ∙ ap (read_invoice supply hour wh m f) (sym (tail_from rest 9))
          ∙ invoice_on supply hour wh rest m f (tail rest 9) (invoice_text end.value) n ended.0 ended.1 ended.2
          ∙ (λ i. good (record { supply = supply; hour = hour; wh = (sym same.0 i).0; method = method_number (sym same.1 i); firmness = firmness_number (sym same.2 i); invoice = invoice_text (sym same.3 i) }) (behind b active.length n i)));
      within = within_bytes b active.length n right.4 ended.3;
    }
