-- What the grant of a call on a book tells.
use Rattle.std.proofs.Common.{◌≡◌, ℕ, ◌+◌, ◌-◌, ◌≤◌, true, false, not, ◌&&◌, eqb, leb, List, ◌∷◌, length, Some, None, arith}
use Rattle.std.proofs.lemmas.Bool.{and_parts, ltb-false, not-false}
use Rattle.closing.proofs.Passing.{front_passed, passed}
use Rattle.closing.specs.Closing.{closing_tests}
use Rattle.f5d.specs.Records.{same}
use Rattle.official_time.proofs.Dates.{within}
use Rattle.official_time.specs.Hours.{meant}
use Rattle.profile.specs.Weights.{Weights}
use Rattle.tariff.specs.Timetables.{Timetable}
use Rattle.vocabulary.specs.Answers.{first_met, is_granted, test}
use Rattle.vocabulary.specs.Codes.{is_invoice}
use Rattle.vocabulary.specs.Ranges.{between}
use Rattle.book.specs.Books.{answer, balance, balance_of, Book, case_of, close, difference, estimate, is_open, reading, Reading, Registered, some_of, strike, tests, too_much}

pub reading_after : (k : Book) (r : Reading) → is_granted (answer k (reading r)) ≡ true → k.terms.first ≤ meant r.label
reading_after k r a =
    let h = passed (tests k (reading r)) a in
    (within k.terms.first (k.terms.first + k.terms.hours - 1) (meant r.label) (not-false _ h.1.1.1.1.1.1.0)).0

pub reading_small : (k : Book) (r : Reading) → is_granted (answer k (reading r)) ≡ true → r.wh ≤ 55000
reading_small k r a = let h = passed (tests k (reading r)) a in ltb-false 55000 r.wh h.1.1.1.1.0

pub balance_from : (k : Book) (s n : ℕ) (total : Registered) (parts : List Registered) → is_granted (answer k (balance s n total parts)) ≡ true → 1 ≤ s
balance_from k s n total parts a =
    let h = passed (tests k (balance s n total parts)) a in
    (within 1 3 s (and_parts (between 1 3 s) (between 1 3 n) (and_parts (between 1 3 s && between 1 3 n) (eqb n (length parts)) (not-false _ h.1.0)).0).0).0

pub balance_small : (k : Book) (s n : ℕ) (total : Registered) (parts : List Registered) → is_granted (answer k (balance s n total parts)) ≡ true →
    some_of (λ v. too_much k (difference k v)) (total ∷ parts) ≡ false
balance_small k s n total parts a = (passed (tests k (balance s n total parts)) a).1.1.1.0

pub estimate_from : (k : Book) (s n : ℕ) (kwh : List ℕ) → is_granted (answer k (estimate s n kwh)) ≡ true → 1 ≤ s
estimate_from k s n kwh a =
    let h = passed (tests k (estimate s n kwh)) a in
    let l = (within 4 5 s (and_parts (between 4 5 s) (between 1 3 n) (and_parts (between 4 5 s && between 1 3 n) (eqb n (length kwh)) (not-false _ h.1.0)).0).0).0 in
    omega arith

pub estimate_small : (k : Book) (s n : ℕ) (kwh : List ℕ) → is_granted (answer k (estimate s n kwh)) ≡ true → some_of (too_much k) kwh ≡ false
estimate_small k s n kwh a = (passed (tests k (estimate s n kwh)) a).1.1.0

pub strike_from : (k : Book) (s : ℕ) → is_granted (answer k (strike s)) ≡ true → 1 ≤ s
strike_from k s a = let h = passed (tests k (strike s)) a in (within 1 5 s (not-false _ h.1.0)).0

pub close_invoice : (k : Book) (cal : Timetable) (prof : Weights) (inv : List ℕ) → is_granted (answer k (close cal prof inv)) ≡ true → is_invoice inv ≡ true
close_invoice k cal prof inv a = let h = passed (tests k (close cal prof inv)) a in not-false _ h.1.1.0

-- the tests of the closing rules pass in a granted close
pub close_passes : (k : Book) (cal : Timetable) (prof : Weights) (inv : List ℕ) → is_granted (answer k (close cal prof inv)) ≡ true →
    is_granted (first_met (closing_tests (case_of k cal prof) (balance_of k))) ≡ true
close_passes k cal prof inv a =
    let rest = closing_tests (case_of k cal prof) (balance_of k) in
    let t2 = test 36 (leb 1000000 k.closes) in
    let t3 = test 10 (not (is_invoice inv)) in
    let t4 = test 28 (elim k.invoice [ None ↦ false | Some last ↦ same last inv ]) in
    front_passed t4 rest (front_passed t3 (t4 ∷ rest) (front_passed t2 (t3 ∷ t4 ∷ rest) (front_passed (test 20 (not (is_open k.phase))) (t2 ∷ t3 ∷ t4 ∷ rest) a)))
