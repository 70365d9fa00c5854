use Rattle.std.proofs.Common.{◌≡◌, ◌+◌, ◌*◌, ap, ◌∙◌, arith}
use Rattle.official_time.specs.Hours.{flag}
use Rattle.official_time.proofs.Hours.{first_counts}
use Rattle.official_time.proofs.hour.first_of.Goals as goal

pub invariant_of-result : goal.invariant_of-result
invariant_of-result c =
    let d = c.args.day in
    let f = first_counts d.number d.counted in
    let a : c.flag_at.result ≡ flag (24 * d.number + 1) = c.flag_at.ensures.value ∙ ap (λ n. flag (24 * n + 1)) c.number.ensures.value in
    record { first = omega arith; last = omega arith }
