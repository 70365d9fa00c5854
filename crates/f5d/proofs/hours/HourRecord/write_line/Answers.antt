use Rattle.std.proofs.Common.{◌≡◌, ◌+◌, [], ◌∷◌, ◌++◌, length, decimal, refl, sym, ap, ◌∙◌, arith, rules}
use Rattle.official_time.proofs.Hours.{flag_small}
use Rattle.std.specs.List.{concat}
use Rattle.official_time.specs.Texts.{label_text}
use Rattle.f5d.specs.Buffers.{over}
use Rattle.f5d.specs.Meanings.{invoice_text, record_of}
use Rattle.f5d.specs.Records.{fields}
use Rattle.f5d.proofs.Writing.{line_joined}
use Rattle.f5d.proofs.hours.HourRecord.write_line.Goals as goal

pub label_fields-requires : goal.label_fields-requires
label_fields-requires c = omega (arith, flag_small c.args.self.now.at.hour.number, c.label.ensures.value.season)

pub returns : goal.returns
returns c =
    let was = c.args.into.now in
    let a = c.as_bytes.result.now in
    let b = c.label_fields.result in
    let d = c.as_bytes-2.result.now in
    let e = c.method_fields.result in
    let i = c.as_bytes-3.result.now in
    let on-a = c.put.ensures.bytes [] was (sym c.new-pen.ensures.value) c.new-pen.ensures.same in
    let on-b = c.put-2.ensures.bytes a was on-a.0 on-a.1 in
    let on-d = c.put-3.ensures.bytes (a ++ b) was on-b.0 on-b.1 in
    let on-e = c.put-4.ensures.bytes ((a ++ b) ++ d) was on-d.0 on-d.1 in
    let on-i = c.put-5.ensures.bytes (((a ++ b) ++ d) ++ e) was on-e.0 on-e.1 in
    let on-end = c.put-6.ensures.bytes ((((a ++ b) ++ d) ++ e) ++ i) was on-i.0 on-i.1 in
    let r = record_of c.args.self.now in
    let l = c.label.result in
    let on_line : ((((a ++ b) ++ d) ++ e) ++ i) ++ (59 ∷ 10 ∷ []) ≡ concat (fields l r)
    = (λ j. ((((c.as_bytes.ensures.value j ++ c.label_fields.ensures j) ++ (c.as_bytes-2.ensures.value ∙ c.format-digits.ensures.text ∙ ap (λ w. decimal w.0) c.energy.ensures.value) j) ++ c.method_fields.ensures j) ++ (c.as_bytes-3.ensures.value ∙ ap invoice_text c.invoice.ensures) j) ++ (59 ∷ 10 ∷ []))
    ∙ line_joined r.supply (label_text l) (decimal r.wh) r.invoice (48 + l.flag) (48 + r.method) (48 + r.firmness) in
    (concat (fields l r), record { label = l; labels = c.label.ensures.value; written = refl }, c.written.ensures ∙ sym on-end.0 ∙ ap length on_line, search (rules, on-end.1 ∙ ap (λ t. over t was) on_line))
