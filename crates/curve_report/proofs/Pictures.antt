-- The signs of a clock day, and which records lie on it.
use Rattle.std.proofs.Common.{◌≡◌, ℕ, zero, suc, ◌<◌, ◌≤◌, ◌+◌, Bool, true, false, cond, IsAscii, List, [], ◌∷◌, ◌++◌, map, length, get_or, take, drop, replicate, sym, refl, ap, ◌∙◌, subst, arith}
use Rattle.std.proofs.lemmas.List.{map-append, take-append-drop}
use Rattle.std.proofs.lemmas.List.Recursion.{and_at}
use Rattle.std.proofs.lemmas.Bool.{eq-eqb, false≢true, and_from}
use Rattle.std.proofs.lemmas.Bool.Decides.{nat_tests}
use Rattle.std.proofs.lemmas.Str.Ascii.{IsAscii-cons, IsAscii-nil}
use Rattle.std.specs.List.{prefix_len}
use Rattle.official_time.specs.Hours.{clock_day, is_hour}
use Rattle.f5d.specs.Meanings.{record_of}
use Rattle.f5d.specs.Records.{every_record}
use Rattle.f5d.specs.declared.hours.HourRecord.{HourRecord}
use Rattle.curve_report.specs.Report.{Days, DayText, leaves_day, none, on_day, one_more}

pub dots_ascii : (n : ℕ) → IsAscii (replicate n 46)
dots_ascii zero = IsAscii-nil
dots_ascii (suc n) = IsAscii-cons 46 (replicate n 46) (omega arith) (dots_ascii n)

-- a record of a clock day lies between its first and last hour
pub on_day_within : (d : ℕ) (xs : List HourRecord) (i : ℕ) (r : HourRecord) (first last : ℕ) → ((h : ℕ) → is_hour h ≡ true → clock_day h ≡ d → (first ≤ h) × (h ≤ last)) → every_record (on_day d) (map record_of xs) ≡ true → i < length xs → r ≡ get_or xs i r → (first ≤ r.at.hour.number) × (r.at.hour.number ≤ last)
on_day_within d xs i r first last all e l is =
    let day : on_day d (record_of r) ≡ true
    = subst (λ x. on_day d (record_of x) ≡ true) (sym is) (and_at (λ rs. every_record (on_day d) (map record_of rs)) (λ x. on_day d (record_of x)) refl (λ _ _. refl) xs i r l e) in
    let h = r.at.hour.number in
    let low = r.at.hour.first in
    let high = r.at.hour.last in
    let real : is_hour h ≡ true = grind (arith, nat_tests) in
    let on : clock_day h ≡ d = grind (arith, nat_tests) in
    all h real on

module _ (d : ℕ) where
  abbrev pub here : HourRecord → Bool
  here r = on_day d (record_of r)

  -- the first records that lie on a day
  pub day_all : (xs : List HourRecord) (n : ℕ) → n ≡ prefix_len here xs → every_record (on_day d) (map record_of (take n xs)) ≡ true
  day_all [] zero e = refl
  day_all [] (suc n) e = refl
  day_all (x ∷ xs) zero e = refl
  day_all (x ∷ xs) (suc n) e = by (here x) refl e (λ k. day_all xs n k)
    where
      by : (b : Bool) → here x ≡ b → suc n ≡ cond b (1 + prefix_len here xs) 0 → (n ≡ prefix_len here xs → every_record (on_day d) (map record_of (take n xs)) ≡ true) → every_record (on_day d) (map record_of (take (suc n) (x ∷ xs))) ≡ true
      by true on k more = and_from (here x) (every_record (on_day d) (map record_of (take n xs))) on (more (omega arith))
      by false off k more = absurd (omega arith)

  -- behind them the day is left
  pub day_left : (xs : List HourRecord) (n : ℕ) → n ≡ prefix_len here xs → leaves_day d (map record_of (drop n xs)) ≡ true
  day_left [] zero e = refl
  day_left [] (suc n) e = refl
  day_left (x ∷ xs) zero e = by (here x) refl e
    where
      by : (b : Bool) → here x ≡ b → 0 ≡ cond b (1 + prefix_len here xs) 0 → cond (here x) false true ≡ true
      by true on k = absurd (omega arith)
      by false off k = ap (λ b. cond b false true) off
  day_left (x ∷ xs) (suc n) e = by (here x) refl e (λ k. day_left xs n k)
    where
      by : (b : Bool) → here x ≡ b → suc n ≡ cond b (1 + prefix_len here xs) 0 → (n ≡ prefix_len here xs → leaves_day d (map record_of (drop n xs)) ≡ true) → leaves_day d (map record_of (drop n xs)) ≡ true
      by true on k more = more (omega arith)
      by false off k more = absurd (omega arith)

  -- the first of some records lies on its own day
  pub day_some : (xs : List HourRecord) (r : HourRecord) (n : ℕ) → 0 < length xs → r ≡ get_or xs 0 r → d ≡ clock_day r.at.hour.number → leaves_day d (map record_of (drop n xs)) ≡ true → 0 < n
  day_some [] r n l is day e = absurd (omega arith)
  day_some (x ∷ xs) r (suc n) l is day e = omega arith
  day_some (x ∷ xs) r zero l is day e =
      let on : on_day d (record_of x) ≡ true = eq-eqb (clock_day x.at.hour.number) d (sym (day ∙ ap (λ y. clock_day y.at.hour.number) is)) in
      absurd (false≢true (sym (ap (λ b. cond b false true) on) ∙ e))

  -- the picture of the day, before those of later days
  pub days_more : (xs : List HourRecord) (n : ℕ) → 0 < length xs → 0 < n → every_record (on_day d) (map record_of (take n xs)) ≡ true → leaves_day d (map record_of (drop n xs)) ≡ true → (text more : List ℕ) → DayText d (map record_of (take n xs)) text → Days (map record_of (drop n xs)) more → Days (map record_of xs) (text ++ more)
  days_more [] n l some all ends text more here rest = absurd (omega arith)
  days_more (x ∷ xs) zero l some all ends text more here rest = absurd (omega arith)
  days_more (x ∷ xs) (suc n) l some all ends text more here rest =
      subst (λ rs. Days (record_of x ∷ rs) (text ++ more)) (sym (ap (map record_of) (sym (take-append-drop n xs)) ∙ map-append record_of (take n xs) (drop n xs))) (one_more all ends here rest)

pub none_left : (xs : List HourRecord) → length xs < 1 → Days (map record_of xs) []
none_left [] l = none
none_left (x ∷ xs) l = absurd (omega arith)
