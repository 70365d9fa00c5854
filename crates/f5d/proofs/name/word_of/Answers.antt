use Rattle.std.proofs.Common.{IsUtf8, subst}
use Rattle.f5d.proofs.FileNames.{word_utf8}
use Rattle.f5d.proofs.Tries.{lost}
use Rattle.f5d.proofs.name.word_of.Goals as goal

pub returns-in_err-ok : goal.returns-in_err-ok
returns-in_err-ok c = rw c.from_residual.ensures (λ w e. lost _ _ c.from_utf8.result c.in_err-ok.ensures.value (λ fault bad. bad.0 (subst IsUtf8 e (word_utf8 w))) c.from_utf8.ensures.cases)
