use Rattle.std.proofs.Common.{◌≡◌, [], ◌∷◌, ◌++◌, length, decimal, sym, ap, ◌∙◌, rules}
use Rattle.f5d.specs.Buffers.{over}
use Rattle.f5d.specs.FileNames.{name_of}
use Rattle.f5d.specs.Names.{date_digits, name_text, word_text}
use Rattle.f5d.proofs.NameTexts.{name_joined}
use Rattle.f5d.proofs.file_name.FileName.write.Goals as goal

pub returns : goal.returns
returns c =
    let n = c.args.self.now in
    let was = c.args.into.now in
    let w = c.as_bytes.result.now in
    let d = c.distributor.result.now.bytes in
    let r = c.retailer.result.now.bytes in
    let t = c.date_part.result in
    let v = c.as_bytes-2.result.now in
    let on-w = c.put.ensures.bytes [] was (sym c.new-pen.ensures.value) c.new-pen.ensures.same in
    let on-d = c.put_code.ensures.bytes w was on-w.0 on-w.1 in
    let on-r = c.put_code-2.ensures.bytes (w ++ 95 ∷ d) was on-d.0 on-d.1 in
    let on-t = c.put-2.ensures.bytes ((w ++ 95 ∷ d) ++ 95 ∷ r) was on-r.0 on-r.1 in
    let on-v = c.put-3.ensures.bytes (((w ++ 95 ∷ d) ++ 95 ∷ r) ++ t) was on-t.0 on-t.1 in
    let word : w ≡ word_text n.word = c.as_bytes.ensures.value ∙ c.text.ensures ∙ ap word_text c.word.ensures in
    let date : t ≡ 95 ∷ (date_digits n.date ++ 46 ∷ []) = c.date_part.ensures ∙ ap (λ x. 95 ∷ (date_digits x ++ 46 ∷ [])) c.date.ensures.value in
    let version : v ≡ decimal n.version = c.as_bytes-2.ensures.value ∙ c.format-digits.ensures.text ∙ ap decimal c.version.ensures in
    let whole : (((w ++ 95 ∷ d) ++ 95 ∷ r) ++ t) ++ v ≡ name_text (name_of n)
    = (λ i. (((word i ++ 95 ∷ (c.distributor.ensures i).bytes) ++ 95 ∷ (c.retailer.ensures i).bytes) ++ date i) ++ version i)
    ∙ name_joined (word_text n.word) n.distributor.bytes n.retailer.bytes (date_digits n.date) (decimal n.version) in
    (c.written.ensures ∙ sym on-v.0 ∙ ap length whole, search (rules, on-v.1 ∙ ap (λ x. over x was) whole))
