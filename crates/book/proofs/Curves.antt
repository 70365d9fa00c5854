-- The curve of a book as a list: its energies, its hours, and that lines can bear it.
use Rattle.std.proofs.Common.{◌≡◌, ℕ, zero, suc, ◌+◌, ◌-◌, ◌*◌, ◌<◌, ◌≤◌, true, cond, ◌&&◌, ◌||◌, eqb, leb, List, [], ◌∷◌, get_or, Some, None, Option, unwrap_or, sym, refl, ap, ◌∙◌, subst, add-zero, zero-add, arith}
use Rattle.std.specs.List.{AllByRecursion}
use Rattle.std.proofs.lemmas.Bool.{and_from, and_parts, cond_both, le-leb, leb-true, not-false}
use Rattle.closing.proofs.Curves.{closing_law, right_alike}
use Rattle.closing.proofs.Passing.{passed}
use Rattle.closing.proofs.Limits.{below_limit, hour_limit, hour_method, of_bill}
use Rattle.closing.specs.Closing.{Balance, Billed, Case, closed_hour, count, energy_read, firmness, lies, read_wh}
use Rattle.f5d.specs.Records.{can_bear, every_record}
use Rattle.official_time.proofs.Dates.{within}
use Rattle.official_time.specs.Hours.{is_hour, last_hour}
use Rattle.profile.specs.Weights.{Weights}
use Rattle.tariff.specs.Timetables.{Timetable}
use Rattle.vocabulary.specs.Answers.{is_granted}
use Rattle.vocabulary.specs.Codes.{is_invoice, is_supply}
use Rattle.vocabulary.specs.Ranges.{between}
use Rattle.book.specs.BookLaw.{BalanceLimit, done, energy_at, FineCurve, more, ReadLimit, Sound, Whole}
use Rattle.book.specs.Books.{answer, balance_of, begin_tests, bill_of, Book, case_of, close, curve_from, curve_of, is_book, Terms}
use Rattle.book.proofs.Grants.{close_invoice, close_passes}

-- the energy at a place of a curve
pub energy_from : (t : Terms) (c : Case) (b : Billed) (inv : List ℕ) (i n j : ℕ) → j < n → energy_at (curve_from t c b inv i n) j ≡ (closed_hour c b (i + j)).0
energy_from t c b inv i zero j l = absurd (omega arith)
energy_from t c b inv i (suc n) zero l = ap (λ x. (closed_hour c b x).0) (sym (add-zero i))
energy_from t c b inv i (suc n) (suc j) l =
    energy_from t c b inv (suc i) n j (omega arith) ∙ ap (λ x. (closed_hour c b x).0) (omega arith)

-- it has every hour of the billing period
pub whole_from : (t : Terms) (c : Case) (b : Billed) (inv : List ℕ) (i n : ℕ) → Whole t.supply (t.first + i) n (curve_from t c b inv i n)
whole_from t c b inv i zero = done
whole_from t c b inv i (suc n) =
    more refl refl (subst (λ h. Whole t.supply h n (curve_from t c b inv (suc i) n)) (omega arith) (whole_from t c b inv (suc i) n))

-- ## What the parts of a book are bounded by

-- what holds of the elements and of what stands for none holds at every place
pub all_at : {A : Type 0} (P : A → Type 0) (xs : List A) (i : ℕ) (d : A) → P d → AllByRecursion P xs → P (get_or xs i d)
all_at P [] i d p a = p
all_at P (x ∷ xs) zero d p a = a.0
all_at P (x ∷ xs) (suc i) d p a = all_at P xs i d p a.1

read_value : (o : Option ℕ) → ReadLimit o → unwrap_or o 0 ≤ 55000
read_value None l = omega arith
read_value (Some wh) l = l

pub record Begun (t : Terms) : Type 0 where
  pub supply : is_supply t.supply ≡ true
  pub first : 1 ≤ t.first
  pub hours : (1 ≤ t.hours) × (t.hours ≤ 1500)
  pub last : t.first + t.hours - 1 ≤ last_hour

pub begun : (t : Terms) → is_book t ≡ true → Begun t
begun t e =
    let h = passed (begin_tests t) e in
    let last = leb (t.first + t.hours - 1) last_hour in
    let size = eqb t.register 100000 || eqb t.register 1000000 in
    let a = and_parts (is_hour t.integration && is_hour t.first && between 1 1500 t.hours && last) size (not-false (is_hour t.integration && is_hour t.first && between 1 1500 t.hours && last && size) h.1.0) in
    let b = and_parts (is_hour t.integration && is_hour t.first && between 1 1500 t.hours) last a.0 in
    let c = and_parts (is_hour t.integration && is_hour t.first) (between 1 1500 t.hours) b.0 in
    record {
      supply = not-false (is_supply t.supply) h.0;
      first = (within 1 last_hour t.first (and_parts (is_hour t.integration) (is_hour t.first) c.0).1).0;
      hours = within 1 1500 t.hours c.1;
      last = leb-true (t.first + t.hours - 1) last_hour b.1;
    }

module _ (k : Book) (sound : Sound k) (cal : Timetable) (prof : Weights) where
  abbrev c : Case
  c = case_of k cal prof

  abbrev b : Billed
  b = bill_of k cal prof

  read_limit : (i : ℕ) → energy_read c i ≤ 55000
  read_limit i = read_value (get_or k.reads i None) (all_at ReadLimit k.reads i None tt sound.read)

  short : count c ≤ 1500
  short = let h = (begun k.terms sound.begun).hours in let e = sound.hours in omega arith

  -- what the read hours of a period come to
  read_sum : (p : ℕ) → read_wh c p ≤ 82500000
  read_sum p =
      let e = below_limit (λ i. cond (lies c p i) (energy_read c i) 0) 55000 (count c)
      (λ i. cond_both (lies c p i) (energy_read c i) 0 (λ x. x ≤ 55000) (λ _. read_limit i) (λ _. omega arith)) in
      let s = short in
      omega arith

  pub bill_limit : (p : ℕ) → b.kwh p ≤ 82500
  bill_limit =
      of_bill (λ x. (p : ℕ) → x.kwh p ≤ 82500) (balance_of k) (λ p. omega arith)
      (λ s x l e p. held_limit s x (subst (BalanceLimit k.terms.hours) e (all_at (BalanceLimit k.terms.hours) k.balances (s - 1) None tt sound.billed)) p)
      c
      (λ p. let r = read_sum p in omega arith)
    where
      held_limit : (s : ℕ) (x : Balance) → AllByRecursion (λ kwh. kwh ≤ 55 * k.terms.hours) x.kwh → (p : ℕ) → get_or x.kwh (p - 1) 0 ≤ 82500
      held_limit s x a p =
          let h = (begun k.terms sound.begun).hours in
          let e = all_at (λ kwh. kwh ≤ 55 * k.terms.hours) x.kwh (p - 1) 0 (omega arith) a in
          omega arith

  source_limit : b.source ≤ 5
  source_limit = of_bill (λ x. x.source ≤ 5) (balance_of k) (omega arith) (λ s x l e. l) c (omega arith)

  -- ## Lines can bear the curve

  firm : firmness c b ≤ 1
  firm = cond_both (leb 3 b.source) 0 1 (λ x. x ≤ 1) (λ _. omega arith) (λ _. omega arith)

  wh_limit : (i : ℕ) → i < count c → (closed_hour c b i).0 ≤ 9999999999
  wh_limit i l =
      hour_limit c b 9999999999 (λ j. let e = read_limit j in omega arith) (λ p. let e = bill_limit p in omega arith) i l

  bears_from : (inv : List ℕ) → is_invoice inv ≡ true → (i n : ℕ) → i + n ≤ k.terms.hours → every_record can_bear (curve_from k.terms c b inv i n) ≡ true
  bears_from inv v i zero l = refl
  bears_from inv v i (suc n) l =
      let t = begun k.terms sound.begun in
      let f = t.first in
      let z = t.last in
      let e = sound.hours in
      let m = hour_method c b source_limit i in
      and_from _ _
      (and_from _ _
      (and_from _ _
      (and_from _ _
      (and_from _ _
      (and_from _ _ t.supply (and_from _ _ (le-leb 1 (k.terms.first + i) (omega arith)) (le-leb (k.terms.first + i) last_hour (omega arith))))
      (le-leb (closed_hour c b i).0 9999999999 (wh_limit i (omega arith))))
      (and_from _ _ (le-leb 1 (closed_hour c b i).1 m.0) (le-leb (closed_hour c b i).1 6 m.1)))
      (le-leb (firmness c b) 1 firm))
      v)
      (bears_from inv v (suc i) n (omega arith))

  pub fine_curve : (inv : List ℕ) → is_granted (answer k (close cal prof inv)) ≡ true → FineCurve k cal prof (curve_of k cal prof inv)
  fine_curve inv g = record {
    right =
        right_alike c b (λ i. (closed_hour c b i).0) (energy_at (curve_of k cal prof inv))
        (λ i l. let e = sound.hours in ap (λ j. (closed_hour c b j).0) (sym (zero-add i)) ∙ sym (energy_from k.terms c b inv 0 k.terms.hours i (omega arith)))
        (closing_law c (balance_of k) (close_passes k cal prof inv g));
    whole = subst (λ h. Whole k.terms.supply h k.terms.hours (curve_of k cal prof inv)) (add-zero k.terms.first) (whole_from k.terms c b inv 0 k.terms.hours);
    bears = bears_from inv (close_invoice k cal prof inv g) 0 k.terms.hours (omega arith);
  }
