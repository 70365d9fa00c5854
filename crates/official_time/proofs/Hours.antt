-- What the definitions of hours give: the summer of each year, labels, and the clock from hour to hour.
use Rattle.std.proofs.Common.{◌≡◌, ℕ, ◌+◌, ◌-◌, ◌*◌, ◌/◌, ◌%◌, ◌<◌, ◌≤◌, min, Bool, true, false, cond, ◌&&◌, eqb, ltb, leb, ◌⊎◌, sym, refl, ap, ◌∙◌, subst, inl, inr, ⊎_elim, arith}
use mathlib.Core.Bool.{beq}
use Rattle.std.proofs.lemmas.Bool.{and_parts, and_from, leb-true, leb-false, le-leb, ltb-true, lt-ltb, cases_lt, cond_both, cond-true, eqb-true, eqb-false, eq-eqb, cases_Bool, cases_eq}
use Rattle.official_time.specs.declared.label.Label.{Label}
use Rattle.official_time.specs.Dates.{on, month_days, is_date, days_of_years, day_of, LastSunday}
use Rattle.official_time.specs.Hours.{last_hour, is_hour, last_sunday, change_day, change_month, year_of, flag, InSummer, IsLabel, meant, is_label, clock_day, GoesOn, ordinary, midnight, spring, autumn, DayLength, last}
use Rattle.official_time.proofs.Dates.{leap_small, years_closed, real, is_real, is_sunday, weekday_at, year_from, within}

-- the formula gives the last Sunday
pub sunday_there : (y m : ℕ) → 2000 ≤ y → y ≤ 2099 → month_days y m ≡ 31 → LastSunday y m (last_sunday y m)
unfolding day_of
sunday_there y m low high len = record {
  date = 31 - (day_of (on y m 31) + 6) % 7;
  real = is_real y m (31 - (day_of (on y m 31) + 6) % 7) low high (omega arith) (omega arith);
  late = omega arith;
  here = omega arith;
  sunday = sym (weekday_at (last_sunday y m) 1 (omega arith));
}

-- the change day of a half-year is one
pub change_sunday : (n : ℕ) → n < 200 → LastSunday (2000 + n / 2) (change_month n) (change_day n)
change_sunday n l = sunday_there (2000 + n / 2) (change_month n) (omega arith) (omega arith) (cond_both (eqb (n % 2) 0) 3 10 (λ m. month_days (2000 + n / 2) m ≡ 31) (λ _. refl) (λ _. refl))

-- a month has one last Sunday
pub one_sunday : (y m d e : ℕ) → LastSunday y m d → LastSunday y m e → d ≡ e
unfolding day_of
one_sunday y m d e a b =
    let ra = real (on y m a.date) a.real in
    let rb = real (on y m b.date) b.real in
    let sa = is_sunday d a.sunday in
    let sb = is_sunday e b.sunday in
    let ha = a.here in
    let hb = b.here in
    let la = a.late in
    let lb = b.late in
    omega arith

-- where in the year the changes lie
pub march_near : (y : ℕ) → (days_of_years (y - 2000) + 83 ≤ last_sunday y 3) × (last_sunday y 3 ≤ days_of_years (y - 2000) + 90)
unfolding day_of
march_near y = let l = leap_small y in (omega arith, omega arith)

pub october_near : (y : ℕ) → (days_of_years (y - 2000) + 297 ≤ last_sunday y 10) × (last_sunday y 10 ≤ days_of_years (y - 2000) + 304)
unfolding day_of
october_near y = let l = leap_small y in (omega arith, omega arith)

pub flag_small : (h : ℕ) → flag h ≤ 1
unfolding flag
flag_small h = cond_both (leb (24 * last_sunday (year_of h) 3 + 2) h && ltb h (24 * last_sunday (year_of h) 10 + 2)) 1 0 (λ v. v ≤ 1) (λ e. omega arith) (λ e. omega arith)

one_true : (b : Bool) → ◌≡◌ {A = ℕ} (cond b 1 0) 1 → b ≡ true
one_true true e = refl
one_true false e = absurd (omega arith)

pub flag_between : (h : ℕ) → flag h ≡ 1 → (24 * last_sunday (year_of h) 3 + 2 ≤ h) × (h < 24 * last_sunday (year_of h) 10 + 2)
unfolding flag
flag_between h e =
    let p = and_parts (leb (24 * last_sunday (year_of h) 3 + 2) h) (ltb h (24 * last_sunday (year_of h) 10 + 2)) (one_true _ e) in
    (leb-true (24 * last_sunday (year_of h) 3 + 2) h p.0, ltb-true h (24 * last_sunday (year_of h) 10 + 2) p.1)

pub between_flag : (h : ℕ) → 24 * last_sunday (year_of h) 3 + 2 ≤ h → h < 24 * last_sunday (year_of h) 10 + 2 → flag h ≡ 1
unfolding flag
between_flag h a b = cond-true _ 1 0 (and_from _ _ (le-leb (24 * last_sunday (year_of h) 3 + 2) h a) (lt-ltb h (24 * last_sunday (year_of h) 10 + 2) b))

-- an hour's flag is 1 exactly in summer
pub summer_to : (h : ℕ) → h ≤ last_hour → flag h ≡ 1 → InSummer h
summer_to h l e =
    let y = year_of h in
    let p = flag_between h e in
    record {
      year = y;
      begins = last_sunday y 3;
      ends = last_sunday y 10;
      march = sunday_there y 3 (omega arith) (omega arith) refl;
      october = sunday_there y 10 (omega arith) (omega arith) refl;
      from = p.0;
      to = p.1;
    }

module _ (h : ℕ) (s : InSummer h) where
  pub summer_year : s.year ≡ year_of h
  summer_year =
      let a = real (on s.year 3 s.march.date) s.march.real in
      let b = real (on s.year 10 s.october.date) s.october.real in
      let c = s.march.here in
      let d = s.october.here in
      year_from s.year (h / 24) a.years.0 (omega arith) (omega arith)

  pub summer_begins : s.begins ≡ last_sunday (year_of h) 3
  summer_begins =
      let a = real (on s.year 3 s.march.date) s.march.real in
      one_sunday s.year 3 s.begins (last_sunday s.year 3) s.march (sunday_there s.year 3 a.years.0 a.years.1 refl) ∙ ap (λ y. last_sunday y 3) summer_year

  pub summer_ends : s.ends ≡ last_sunday (year_of h) 10
  summer_ends =
      let a = real (on s.year 3 s.march.date) s.march.real in
      one_sunday s.year 10 s.ends (last_sunday s.year 10) s.october (sunday_there s.year 10 a.years.0 a.years.1 refl) ∙ ap (λ y. last_sunday y 10) summer_year

  pub summer_from : flag h ≡ 1
  summer_from = let a = summer_begins in let b = summer_ends in let f = s.from in let t = s.to in between_flag h (omega arith) (omega arith)

flag_zero : (h : ℕ) → (flag h ≡ 1 → ⊥) → flag h ≡ 0
flag_zero h no' = let s = flag_small h in ⊎_elim (λ e. absurd (no' e)) (λ ne. omega arith) (cases_eq (flag h) 1)

second_half : (n : ℕ) → (8 * n / 1461 % 2 ≡ 0 → ⊥) → 1461 * (2 * (4 * n / 1461) + 1) ≤ 8 * n
second_half n odd =
    let q : 4 * n / 1461 ≡ 8 * n / 1461 / 2 = omega arith in
    let one : 8 * n / 1461 % 2 ≡ 1 = omega arith in
    let s : 8 * n / 1461 ≡ 2 * (8 * n / 1461 / 2) + 1 = omega arith in
    let t : 1461 * (8 * n / 1461) ≤ 8 * n = omega arith in
    omega arith

first_half : (n : ℕ) → 8 * n / 1461 % 2 ≡ 0 → 8 * n < 1461 * (2 * (4 * n / 1461) + 1)
first_half n even =
    let q : 4 * n / 1461 ≡ 8 * n / 1461 / 2 = omega arith in
    let s : 8 * n / 1461 ≡ 2 * (8 * n / 1461 / 2) = omega arith in
    let t : 8 * n < 1461 * (8 * n / 1461 + 1) = omega arith in
    omega arith

-- the flag, told from the one change of the half-year in which the hour ends
flag_by_half : (h d : ℕ) → h ≤ last_hour → d ≡ change_day (8 * (h / 24) / 1461) → flag h ≡ cond (beq (leb (24 * d + 2) h) (eqb (8 * (h / 24) / 1461 % 2) 0)) 1 0
flag_by_half h d l e = go (leb (24 * d + 2) h) (eqb (8 * (h / 24) / 1461 % 2) 0) refl refl
  where
    y : 2000 + 8 * (h / 24) / 1461 / 2 ≡ year_of h
    y = omega arith

    begins : eqb (8 * (h / 24) / 1461 % 2) 0 ≡ true → d ≡ last_sunday (year_of h) 3
    begins q = e ∙ ap (λ b. last_sunday (2000 + 8 * (h / 24) / 1461 / 2) (cond b 3 10)) q ∙ ap (λ n. last_sunday n 3) y

    ends : eqb (8 * (h / 24) / 1461 % 2) 0 ≡ false → d ≡ last_sunday (year_of h) 10
    ends q = e ∙ ap (λ b. last_sunday (2000 + 8 * (h / 24) / 1461 / 2) (cond b 3 10)) q ∙ ap (λ n. last_sunday n 10) y

    go : (p q : Bool) → leb (24 * d + 2) h ≡ p → eqb (8 * (h / 24) / 1461 % 2) 0 ≡ q → flag h ≡ cond (beq p q) 1 0
    go true true p q =
        let a = leb-true (24 * d + 2) h p in
        let b = begins q in
        let r = eqb-true (8 * (h / 24) / 1461 % 2) 0 q in
        let o = october_near (year_of h) in
        let c = years_closed (year_of h - 2000) in
        let early = first_half (h / 24) r in
        between_flag h (omega arith) (omega arith)
    go false true p q =
        let a = leb-false (24 * d + 2) h p in
        let b = begins q in
        flag_zero h (λ f. let g = flag_between h f in omega arith)
    go true false p q =
        let a = leb-true (24 * d + 2) h p in
        let b = ends q in
        flag_zero h (λ f. let g = flag_between h f in omega arith)
    go false false p q =
        let a = leb-false (24 * d + 2) h p in
        let b = ends q in
        let r = eqb-false (8 * (h / 24) / 1461 % 2) 0 q in
        let o = march_near (year_of h) in
        let c = years_closed (year_of h - 2000) in
        let late = second_half (h / 24) r in
        between_flag h (omega arith) (omega arith)

pub flag_by_change : (h n d : ℕ) → h ≤ last_hour → n ≡ 8 * (h / 24) / 1461 → d ≡ change_day n → flag h ≡ cond (beq (leb (24 * d + 2) h) (eqb (n % 2) 0)) 1 0
flag_by_change h n d l e f =
    subst (λ k. d ≡ change_day k → flag h ≡ cond (beq (leb (24 * d + 2) h) (eqb (k % 2) 0)) 1 0) (sym e) (flag_by_half h d l) f

-- the clock never passes the last hour
pub clock_bound : (h : ℕ) → h ≤ last_hour → h + flag h ≤ last_hour
clock_bound h l = ⊎_elim summer (λ ne. let z = flag_zero h ne in omega arith) (cases_eq (flag h) 1)
  where
    summer : flag h ≡ 1 → h + flag h ≤ last_hour
    summer e =
        let b = flag_between h e in
        let o = october_near (year_of h) in
        let c = years_closed (year_of h - 2000) in
        omega arith

-- a label is that of an hour exactly where the test says so, and of no other hour than the one meant
pub label_to : (l : Label) → is_label l ≡ true → IsLabel (meant l) l
unfolding is_label meant
label_to l t =
    let a = is_date l.date in
    let b = a && ltb l.hour 24 in
    let c = b && eqb l.minute 0 in
    let d = c && eqb l.second 0 in
    let e = d && is_hour (meant l) in
    let p = and_parts e (eqb l.flag (flag (meant l))) t in
    let q = and_parts d (is_hour (meant l)) p.0 in
    let r = and_parts c (eqb l.second 0) q.0 in
    let s = and_parts b (eqb l.minute 0) r.0 in
    let u = and_parts a (ltb l.hour 24) s.0 in
    let v = eqb-true l.flag (flag (meant l)) p.1 in
    let w = within 1 last_hour (meant l) q.1 in
    record {
      hour = w;
      date = u.0;
      clock = omega arith;
      below_24 = ltb-true l.hour 24 u.1;
      full = (eqb-true l.minute 0 s.1, eqb-true l.second 0 r.1);
      season = v;
    }

pub label_from : (h : ℕ) (l : Label) → IsLabel h l → (is_label l ≡ true) × (h ≡ meant l)
unfolding is_label meant
label_from h l s =
    let a = s.hour in
    let b = s.clock in
    let c = s.season in
    let here : h ≡ meant l = omega arith in
    let f : l.flag ≡ flag (meant l) = c ∙ ap flag here in (
      and_from _ _
          (and_from _ _
          (and_from _ _
          (and_from _ _ (and_from _ _ s.date (lt-ltb l.hour 24 s.below_24)) (eq-eqb l.minute 0 s.full.0))
          (eq-eqb l.second 0 s.full.1))
          (and_from _ _ (le-leb 1 (meant l) (omega arith)) (le-leb (meant l) last_hour (omega arith))))
          (eq-eqb l.flag (flag (meant l)) f),
      here,
    )

pub no_label : (l : Label) → ((h : ℕ) → IsLabel h l → ⊥) → is_label l ≡ false
no_label l none = ⊎_elim (λ t. absurd (none (meant l) (label_to l t))) (λ f. f) (cases_Bool (is_label l))

-- between an hour of winter and one of summer lies the change
step_in : (h : ℕ) (s : InSummer (h + 1)) → flag h ≡ 0 → h ≡ 24 * s.begins + 1
step_in h s z =
    let f = s.from in
    let t = s.to in
    ⊎_elim (λ l. omega arith)
    (λ g. let w : InSummer h = record { year = s.year; begins = s.begins; ends = s.ends; march = s.march; october = s.october; from = g; to = omega arith } in let e = summer_from h w in omega arith)
    (cases_lt h (24 * s.begins + 2))

step_out : (h : ℕ) (s : InSummer h) → flag (h + 1) ≡ 0 → h ≡ 24 * s.ends + 1
step_out h s z =
    let f = s.from in
    let t = s.to in
    ⊎_elim
    (λ l. let w : InSummer (h + 1) = record { year = s.year; begins = s.begins; ends = s.ends; march = s.march; october = s.october; from = omega arith; to = l } in let e = summer_from (h + 1) w in omega arith)
    (λ g. omega arith)
    (cases_lt (h + 1) (24 * s.ends + 2))

pub goes_on : (h : ℕ) → 1 ≤ h → h < last_hour → GoesOn h
goes_on h one l = ⊎_elim (λ e. same e) (λ ne. changed ne) (cases_eq (flag (h + 1)) (flag h))
  where
    same : flag (h + 1) ≡ flag h → GoesOn h
    same e =
        ⊎_elim (λ m. ordinary e (omega arith) (omega arith)) (λ m. midnight e (omega arith) (omega arith) (omega arith))
        (cases_lt ((h + flag h - 1) % 24) 23)

    to_summer : (s : InSummer (h + 1)) → flag h ≡ 0 → flag (h + 1) ≡ 1 → GoesOn h
    to_summer s a b = let e = step_in h s a in spring a b (omega arith) (omega arith) (omega arith)

    to_winter : (s : InSummer h) → flag h ≡ 1 → flag (h + 1) ≡ 0 → GoesOn h
    to_winter s a b = let e = step_out h s b in autumn a b (omega arith) (omega arith) (omega arith)

    changed : (flag (h + 1) ≡ flag h → ⊥) → GoesOn h
    changed ne =
        let a = flag_small h in
        let b = flag_small (h + 1) in
        ⊎_elim
        (λ e. let z : flag (h + 1) ≡ 0 = omega arith in to_winter (summer_to h (omega arith) e) e z)
        (λ n. let z = flag_zero h n in let o : flag (h + 1) ≡ 1 = omega arith in to_summer (summer_to (h + 1) (omega arith) o) z o)
        (cases_eq (flag h) 1)

-- the clock changes only in the second hour of a day
pub same_flag : (h : ℕ) → h < last_hour → (h % 24 ≡ 1 → ⊥) → flag (h + 1) ≡ flag h
same_flag h l no' =
    let a = flag_small h in
    let b = flag_small (h + 1) in
    ⊎_elim
    (λ e. ⊎_elim (λ f. f ∙ sym e) (λ n. let z = flag_zero (h + 1) n in let s = step_out h (summer_to h (omega arith) e) z in absurd (no' (omega arith))) (cases_eq (flag (h + 1)) 1))
    (λ n. let z = flag_zero h n in ⊎_elim (λ f. let s = step_in h (summer_to (h + 1) (omega arith) f) z in absurd (no' (omega arith))) (λ m. flag_zero (h + 1) m ∙ sym z) (cases_eq (flag (h + 1)) 1))
    (cases_eq (flag h) 1)

-- the hours of a clock day, told from the flags of its first hour and of the one before its last
module _ (d : ℕ) (l : d < 36525) where
  at_first : flag (24 * d + 1) ≡ flag (24 * d)
  at_first = same_flag (24 * d) (omega arith) (λ e. omega arith)

  at_last : d < 36524 → flag (24 * d + 24) ≡ flag (24 * d + 23)
  at_last m =
      let n : 24 * d + 23 + 1 ≡ 24 * d + 24 = omega arith in
      ap flag (sym n) ∙ same_flag (24 * d + 23) (omega arith) (λ e. omega arith)

  pub first_counts : 1 ≤ 24 * d + 1 - flag (24 * d + 1)
  first_counts =
      ⊎_elim
      (λ e. let b = flag_between (24 * d + 1) e in let m = march_near (year_of (24 * d + 1)) in omega arith)
      (λ n. let z = flag_zero (24 * d + 1) n in omega arith)
      (cases_eq (flag (24 * d + 1)) 1)

  pub in_day : (h : ℕ) → 1 ≤ h → h ≤ last_hour → clock_day h ≡ d → (24 * d + 1 - flag (24 * d + 1) ≤ h) × (h ≤ 24 * d + 24 - flag (24 * d + 23))
  in_day h one most e = (from (cases_eq h (24 * d)), to (cases_eq h (24 * d + 24)))
    where
      s : flag h ≤ 1
      s = flag_small h

      t : flag (24 * d + 23) ≤ 1
      t = flag_small (24 * d + 23)

      from : (h ≡ 24 * d) ⊎ (h ≡ 24 * d → ⊥) → 24 * d + 1 - flag (24 * d + 1) ≤ h
      from (inl k) = let f = ap flag k in let a = at_first in omega arith
      from (inr n) = let b = s in omega arith

      to : (h ≡ 24 * d + 24) ⊎ (h ≡ 24 * d + 24 → ⊥) → h ≤ 24 * d + 24 - flag (24 * d + 23)
      to (inl k) = let f = ap flag k in let m : d < 36524 = omega arith in let a = at_last m in let b = s in omega arith
      to (inr n) = let b = s in let c = t in omega arith

  pub of_day : (h : ℕ) → 1 ≤ h → h ≤ last_hour → 24 * d + 1 - flag (24 * d + 1) ≤ h → h ≤ 24 * d + 24 - flag (24 * d + 23) → clock_day h ≡ d
  of_day h one most low high = go (cases_eq h (24 * d)) (cases_eq h (24 * d + 24))
    where
      go : (h ≡ 24 * d) ⊎ (h ≡ 24 * d → ⊥) → (h ≡ 24 * d + 24) ⊎ (h ≡ 24 * d + 24 → ⊥) → clock_day h ≡ d
      go (inl k) m = let f = ap flag k in let a = at_first in let s = flag_small h in omega arith
      go (inr n) (inl k) = let f = ap flag k in let m : d < 36524 = omega arith in let a = at_last m in let s = flag_small h in omega arith
      go (inr n) (inr m) = let s = flag_small h in let t = flag_small (24 * d + 1) in let u = flag_small (24 * d + 23) in omega arith

-- the change days have another flag at their end than at their beginning
module _ (y d : ℕ) where
  pub spring_day : LastSunday y 3 d → (flag (24 * d + 1) ≡ 0) × (flag (24 * d + 23) ≡ 1)
  spring_day s =
      let r = real (on y 3 s.date) s.real in
      let e = one_sunday y 3 d (last_sunday y 3) s (sunday_there y 3 r.years.0 r.years.1 refl) in
      let m = march_near y in
      let o = october_near y in
      let a = years_closed (y - 2000) in
      let b = years_closed (y - 1999) in
      let before : y ≡ year_of (24 * d + 1) = year_from y ((24 * d + 1) / 24) r.years.0 (omega arith) (omega arith) in
      let after : y ≡ year_of (24 * d + 23) = year_from y ((24 * d + 23) / 24) r.years.0 (omega arith) (omega arith) in
      let p = ap (λ n. last_sunday n 3) before in
      let q = ap (λ n. last_sunday n 3) after in
      let u = ap (λ n. last_sunday n 10) after in
      (flag_zero (24 * d + 1) (λ f. let g = flag_between (24 * d + 1) f in omega arith), between_flag (24 * d + 23) (omega arith) (omega arith))

  pub autumn_day : LastSunday y 10 d → (flag (24 * d + 1) ≡ 1) × (flag (24 * d + 23) ≡ 0)
  autumn_day s =
      let r = real (on y 10 s.date) s.real in
      let e = one_sunday y 10 d (last_sunday y 10) s (sunday_there y 10 r.years.0 r.years.1 refl) in
      let m = march_near y in
      let o = october_near y in
      let a = years_closed (y - 2000) in
      let b = years_closed (y - 1999) in
      let before : y ≡ year_of (24 * d + 1) = year_from y ((24 * d + 1) / 24) r.years.0 (omega arith) (omega arith) in
      let after : y ≡ year_of (24 * d + 23) = year_from y ((24 * d + 23) / 24) r.years.0 (omega arith) (omega arith) in
      let p = ap (λ n. last_sunday n 3) before in
      let q = ap (λ n. last_sunday n 10) before in
      let u = ap (λ n. last_sunday n 10) after in
      (between_flag (24 * d + 1) (omega arith) (omega arith), flag_zero (24 * d + 23) (λ f. let g = flag_between (24 * d + 23) f in omega arith))

-- and only they have
spring_found : (d : ℕ) (s : InSummer (24 * d + 23)) → flag (24 * d + 1) ≡ 0 → d ≡ s.begins
spring_found d s z =
    let f = s.from in
    let t = s.to in
    ⊎_elim (λ l. omega arith)
    (λ g. let w : InSummer (24 * d + 1) = record { year = s.year; begins = s.begins; ends = s.ends; march = s.march; october = s.october; from = g; to = omega arith } in let e = summer_from (24 * d + 1) w in omega arith)
    (cases_lt (24 * d + 1) (24 * s.begins + 2))

autumn_found : (d : ℕ) (s : InSummer (24 * d + 1)) → flag (24 * d + 23) ≡ 0 → d ≡ s.ends
autumn_found d s z =
    let f = s.from in
    let t = s.to in
    ⊎_elim
    (λ l. let w : InSummer (24 * d + 23) = record { year = s.year; begins = s.begins; ends = s.ends; march = s.march; october = s.october; from = omega arith; to = l } in let e = summer_from (24 * d + 23) w in omega arith)
    (λ g. omega arith)
    (cases_lt (24 * d + 23) (24 * s.ends + 2))

pub day_length : (d n : ℕ) → d < 36525 → n ≡ min (24 * d + 24 - flag (24 * d + 23)) last_hour + 1 - (24 * d + 1 - flag (24 * d + 1)) → DayLength d n
day_length d n l e = go (cases_eq (flag (24 * d + 1)) 1) (cases_eq (flag (24 * d + 23)) 1)
  where
    is : (m : ℕ) → n ≡ m → DayLength d m → DayLength d n
    is m q = subst (DayLength d) (sym q)

    even : flag (24 * d + 1) ≡ flag (24 * d + 23) → DayLength d n
    even q =
        let s = flag_small (24 * d + 1) in
        let b = clock_bound (24 * d + 23) (omega arith) in
        ⊎_elim
        (λ m. is 24 (omega arith) (ordinary (λ y t. let p = spring_day y d t in omega arith) (λ y t. let p = autumn_day y d t in omega arith) m))
        (λ m. is 23 (omega arith) (last (omega arith)))
        (cases_lt d 36524)

    short : flag (24 * d + 1) ≡ 0 → flag (24 * d + 23) ≡ 1 → InSummer (24 * d + 23) → DayLength d n
    short z o s =
        let b = clock_bound (24 * d + 23) (omega arith) in
        is 23 (omega arith) (spring s.year (subst (LastSunday s.year 3) (sym (spring_found d s z)) s.march))

    long : flag (24 * d + 1) ≡ 1 → flag (24 * d + 23) ≡ 0 → InSummer (24 * d + 1) → DayLength d n
    long o z s =
        let g = flag_between (24 * d + 1) o in
        let m = october_near (year_of (24 * d + 1)) in
        let c = years_closed (year_of (24 * d + 1) - 2000) in
        is 25 (omega arith) (autumn s.year (subst (LastSunday s.year 10) (sym (autumn_found d s z)) s.october))

    go : (flag (24 * d + 1) ≡ 1) ⊎ (flag (24 * d + 1) ≡ 1 → ⊥) → (flag (24 * d + 23) ≡ 1) ⊎ (flag (24 * d + 23) ≡ 1 → ⊥) → DayLength d n
    go (inl a) (inl b) = even (a ∙ sym b)
    go (inr a) (inr b) = even (flag_zero (24 * d + 1) a ∙ sym (flag_zero (24 * d + 23) b))
    go (inr a) (inl b) = short (flag_zero (24 * d + 1) a) b (summer_to (24 * d + 23) (omega arith) b)
    go (inl a) (inr b) = long a (flag_zero (24 * d + 23) b) (summer_to (24 * d + 1) (omega arith) a)
