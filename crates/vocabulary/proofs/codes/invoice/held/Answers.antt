-- The text is the front of the bytes, and with the zeros behind it, it tells a code whole.
use denote.Struct.Record.{values_one}
use Rattle.std.proofs.Common.{◌≡◌, ℕ, ◌-◌, List, ◌++◌, length, take, replicate, refl, ap, arith}
use Rattle.std.proofs.lemmas.List.{length-take, take_at}
use Rattle.vocabulary.specs.contracts.codes.invoice.InvoiceCode.{struct, the_propositions}
use Rattle.vocabulary.proofs.codes.invoice.held.Goals as goal

front : (bytes text : List ℕ) → bytes ≡ text ++ replicate (26 - length text) 0 → take (length text) bytes ≡ text
front bytes text e = rw e (take_at text (replicate (26 - length text) 0) (length text) refl)

pub returns : goal.returns
returns c = record {
  value = front c.padded-bytes.result c.args.text.now c.padded-bytes.ensures;
  alone = λ d e.
      let long : d.len ≡ length c.args.text.now = omega (arith, d.within, simp length-take at (ap length e)) in
      values_one struct the_propositions d _ (cc d.padded);
}
