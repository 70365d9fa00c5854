-- A text that is a date.
use Rattle.std.proofs.Common.{◌≡◌, ℕ, zero, suc, ◌+◌, ◌*◌, ◌/◌, ◌%◌, ◌<◌, true, List, [], ◌∷◌, ◌++◌, length, get_or, sym, refl, ap, ◌∙◌, arith}
use Rattle.official_time.specs.declared.date.Date.{Date}
use Rattle.official_time.specs.Dates.{is_date, on}
use Rattle.official_time.specs.Texts.{date_text, four_digits, Short, two_digits}
use Rattle.official_time.proofs.Dates.{parts}

abbrev pub first_places : ℕ → (ℕ → ℕ) → List ℕ
first_places zero f = []
first_places (suc n) f = f 0 ∷ first_places n (λ i. f (suc i))

-- a list, place by place
pub by_places : (n : ℕ) (xs : List ℕ) → length xs ≡ n → xs ≡ first_places n (λ i. get_or xs i 0)
by_places zero [] h = refl
by_places zero (x ∷ xs) h = absurd (omega arith)
by_places (suc n) [] h = absurd (omega arith)
by_places (suc n) (x ∷ xs) h = ap (λ l. x ∷ l) (by_places n xs (omega arith))

pub date_back : (t : List ℕ) (c y m d : ℕ) → length t ≡ 10 → get_or t 4 0 ≡ 47 → get_or t 7 0 ≡ 47 → y < 100 → two_digits c ≡ get_or t 0 0 ∷ get_or t 1 0 ∷ [] → two_digits y ≡ get_or t 2 0 ∷ get_or t 3 0 ∷ [] → two_digits m ≡ get_or t 5 0 ∷ get_or t 6 0 ∷ [] → two_digits d ≡ get_or t 8 0 ∷ get_or t 9 0 ∷ [] → date_text (on (100 * c + y) m d) ≡ t
date_back t c y m d len s1 s2 l pc py pm pd =
    let a : (100 * c + y) / 100 ≡ c = omega arith in
    let b : (100 * c + y) / 10 % 10 ≡ y / 10 % 10 = omega arith in
    let e : (100 * c + y) % 10 ≡ y % 10 = omega arith in
    let f = by_places 10 t len in
    let x : four_digits (100 * c + y) ≡ two_digits c ++ two_digits y = λ i. two_digits (a i) ++ ((48 + b i) ∷ (48 + e i) ∷ []) in
    (λ i. x i ++ 47 ∷ (two_digits m ++ 47 ∷ two_digits d))
    ∙ (λ i. (pc i ++ py i) ++ sym s1 i ∷ (pm i ++ sym s2 i ∷ pd i))
    ∙ sym f

-- every date from 2000 to 2099 is short enough to be written
pub real_short : (d : Date) → is_date d ≡ true → Short d
real_short d h = let p = parts d h in record { year = omega arith; month = omega arith; day = omega arith }
