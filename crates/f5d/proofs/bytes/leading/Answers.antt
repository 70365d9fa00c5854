use Rattle.std.proofs.Common.{not, length, take, ap, ◌∙◌}
use Rattle.std.proofs.lemmas.List.{take_min}
use Rattle.std.specs.List.{position}
use Rattle.std.specs.Option.{unwrap_or}
use Rattle.vocabulary.specs.Alphabets.{has}
use Rattle.f5d.proofs.Leading.{first_place, leading_place}
use Rattle.f5d.proofs.bytes.leading.Goals as goal

pub returns-clause-value : goal.returns-clause-value
returns-clause-value c =
    let bytes = c.args.bytes.now in
    let most = c.args.most in
    let test = has c.args.alphabet in
    rw (c.unwrap_or.ensures, c.first_other.ensures)
    (ap (λ xs. unwrap_or (position (λ b. not (test b)) xs) (length xs)) (ap (λ k. take k bytes) c.min.ensures ∙ take_min most bytes) ∙ first_place (λ b. not (test b)) (take most bytes) ∙ leading_place test most bytes)
