-- 6 January, by the date of a day.
use Rattle.std.proofs.Common.{◌≡◌, ℕ, ◌+◌, ◌*◌, ◌/◌, ◌<◌, true, false, ◌&&◌, eqb, sym, ap, ◌∙◌, ⊎_elim, arith}
use Rattle.std.proofs.lemmas.Bool.{eq-eqb, eqb-true, cases_Bool, and_from, and_parts, both_ways}
use Rattle.official_time.specs.declared.date.Date.{Date}
use Rattle.official_time.specs.Dates.{day_of, is_date, on}
use Rattle.official_time.proofs.Dates.{is_real, same_date, year_at}
use Rattle.tariff.specs.Rules.{is_6_january, SixJanuaryLaw}

module _ (d : ℕ) (l : d < 36525) where
  there : is_date (on (2000 + 4 * d / 1461) 1 6) ≡ true
  there = is_real (2000 + 4 * d / 1461) 1 6 (omega arith) (omega arith) (omega arith) (omega arith)

  pub january_from : (y : ℕ) → is_date (on y 1 6) ≡ true → d ≡ day_of (on y 1 6) → is_6_january d ≡ true
  january_from y r e =
      let q : y ≡ 2000 + 4 * d / 1461 = year_at (on y 1 6) r ∙ ap (λ n. 2000 + 4 * n / 1461) (sym e) in
      eq-eqb d (day_of (on (2000 + 4 * d / 1461) 1 6)) (e ∙ ap (λ n. day_of (on n 1 6)) q)

  pub january_to : is_6_january d ≡ true → (y : ℕ) × (is_date (on y 1 6) ≡ true) × (d ≡ day_of (on y 1 6))
  january_to t = (2000 + 4 * d / 1461, there, eqb-true d (day_of (on (2000 + 4 * d / 1461) 1 6)) t)

  -- by the month and day of its date
  pub by_date : (x : Date) → is_date x ≡ true → day_of x ≡ d → (eqb x.month 1 && eqb x.day 6) ≡ is_6_january d
  by_date x r e = ⊎_elim yes_six (λ n. n ∙ sym (no_six n)) (cases_Bool (eqb x.month 1 && eqb x.day 6))
    where
      yes_six : (eqb x.month 1 && eqb x.day 6) ≡ true → (eqb x.month 1 && eqb x.day 6) ≡ is_6_january d
      yes_six t =
          let p = and_parts (eqb x.month 1) (eqb x.day 6) t in
          let m = eqb-true x.month 1 p.0 in
          let k = eqb-true x.day 6 p.1 in
          let q : x ≡ on x.year 1 6 = λ i. record { year = x.year; month = m i; day = k i } in
          t ∙ sym (january_from x.year (ap is_date (sym q) ∙ r) (sym e ∙ ap day_of q))

      no_six : (eqb x.month 1 && eqb x.day 6) ≡ false → is_6_january d ≡ false
      no_six n =
          ⊎_elim
          (λ t.
          let q = january_to t in
          let w : x ≡ on q.0 1 6 = same_date x (on q.0 1 6) r q.1 (e ∙ q.2) in
          absurd (both_ways (eqb x.month 1 && eqb x.day 6) n (and_from _ _ (eq-eqb x.month 1 (λ i. (w i).month)) (eq-eqb x.day 6 (λ i. (w i).day)))))
          (λ f. f) (cases_Bool (is_6_january d))

pub six_january_law : SixJanuaryLaw
six_january_law d l = (january_to d l, january_from d l)
