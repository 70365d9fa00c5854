-- The last two digits of a number, as `{:02}` writes them.
use Rattle.std.proofs.Common.{◌≡◌, ℕ, ◌+◌, ◌-◌, ◌/◌, ◌%◌, ◌^◌, false, List, [], ◌∷◌, ◌++◌, ap, ◌∙◌, ⊎_elim, arith}
use Rattle.std.proofs.lemmas.Bool.{cases_lt}
use Rattle.std.proofs.lemmas.Fmt.{decimal_digit, decimal_step}
use Rattle.std.specs.Fmt.{char_count, decimal, format_spec, padded_integral}
use Rattle.official_time.specs.Texts.{two_digits}

abbrev pub in_two_places : List ℕ → List ℕ
in_two_places = padded_integral (format_spec 32 0 4 2 (2 ^ 64 - 1)) false []

pub two_places : (n : ℕ) → in_two_places (decimal (n % 100)) ≡ two_digits n
unfolding padded_integral char_count
two_places n =
    let tens : n % 100 / 10 ≡ n / 10 % 10 = omega arith in
    let ones : n % 100 % 10 ≡ n % 10 = omega arith in
    ⊎_elim
    (λ l.
    let none : 0 ≡ n / 10 % 10 = omega arith in
    let one : n % 100 ≡ n % 10 = omega arith in
    ap in_two_places (decimal_digit (n % 100) l) ∙ (λ i. (48 + none i) ∷ (48 + one i) ∷ []))
    (λ g. ap in_two_places (decimal_step (n % 100) g (omega arith) ∙ ap (λ ds. ds ++ ((48 + n % 100 % 10) ∷ [])) (decimal_digit (n % 100 / 10) (omega arith)))
    ∙ (λ i. (48 + tens i) ∷ (48 + ones i) ∷ []))
    (cases_lt (n % 100) 10)
