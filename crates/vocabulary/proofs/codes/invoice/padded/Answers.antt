-- Behind the text stand the zeros that the copy left.
use Rattle.std.proofs.Common.{ℕ, ◌-◌, ◌++◌, length, replicate, ap}
use Rattle.std.proofs.lemmas.List.{drop-replicate}
use Rattle.vocabulary.proofs.codes.invoice.padded.Goals as goal

pub returns : goal.returns
returns c = rw (drop-replicate {X = ℕ} (length c.args.text.now) 26 0) (ap (λ xs. xs ++ replicate (26 - length c.args.text.now) 0) c.copy_from_slice.ensures.after)
