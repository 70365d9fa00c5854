-- A supply's book: what it holds, what each call answers, and what a granted call changes.
use Rattle.std.specs.Prelude.{ℕ, zero, suc, ◌+◌, ◌-◌, ◌*◌, ◌%◌, Bool, true, false, not, ◌&&◌, ◌||◌, List, [], ◌∷◌, map, length, replicate, is_some, Some, None, Option, ◌==◌, nat_le, nat_lt, slice_index_or, slice_set}
use Rattle.closing.specs.Closing.{Balance, bill, Billed, Case, closed_hour, closing_tests, firmness}
use Rattle.f5d.specs.Records.{Record, same}
use Rattle.official_time.specs.Hours.{is_hour, is_label, last_hour, meant}
use Rattle.official_time.specs.declared.label.Label.{Label}
use Rattle.profile.specs.Weights.{Weights}
use Rattle.tariff.specs.Timetables.{Timetable}
use Rattle.vocabulary.specs.Answers.{Answer, first_met, is_granted, Test, test}
use Rattle.vocabulary.specs.Codes.{is_invoice, is_supply}
use Rattle.vocabulary.specs.Ranges.{between}

-- what a book is begun with: its number, the supply, the hour from which its meter counts, the billing period (its first
-- hour and how many there are) and the size of its register in kWh
pub record Terms : Type 0 where
  pub number : ℕ
  pub supply : List ℕ
  pub integration : ℕ
  pub first : ℕ
  pub hours : ℕ
  pub register : ℕ

-- hours that are none, another length of the billing period than 1 to 1,500 hours, or another register than the two there are
abbrev pub out_of_range : Terms → Bool
out_of_range t =
    not (is_hour t.integration && is_hour t.first && between 1 1500 t.hours && nat_le (t.first + t.hours - 1) last_hour && (t.register == 100000 || t.register == 1000000))

-- the tests of beginning a book, in order
abbrev pub begin_tests : Terms → List Test
begin_tests t = test 10 (not (is_supply t.supply)) ∷ test 11 (out_of_range t) ∷ []

-- a book can be begun with these terms
abbrev pub is_book : Terms → Bool
is_book t = is_granted (first_met (begin_tests t))

pub data Phase : Type 0 where
  Open : Phase
  Closed : Phase
  Published : Phase

-- the hours, each read (its Wh) or missing; the balances of the sources 1 to 5; how often it was closed, the curve of the
-- last close, and the invoice of the last publication
pub record Book : Type 0 where
  pub terms : Terms
  pub phase : Phase
  pub reads : List (Option ℕ)
  pub balances : List (Option Balance)
  pub closes : ℕ
  pub curve : List Record
  pub invoice : Option (List ℕ)

abbrev pub unused : Terms → Book
unused t = record { terms = t; phase = Open; reads = replicate t.hours None; balances = replicate 5 None; closes = 0; curve = []; invoice = None }

-- what a close hands out, and a publication or a withdrawal takes back: the numbers of the book and of the close
pub record Slip : Type 0 where
  pub book : ℕ
  pub close : ℕ

-- the label of the hour, its Wh, the quality bit, and the hour in which the reading comes in
pub record Reading : Type 0 where
  pub label : Label
  pub wh : ℕ
  pub valid : Bool
  pub present : ℕ

-- the first and the last value of a register
pub record Registered : Type 0 where
  pub first : ℕ
  pub last : ℕ

pub data BookCall : Type 0 where
  reading : Reading → BookCall
  balance : (source periods : ℕ) (total : Registered) (parts : List Registered) → BookCall
  estimate : (source periods : ℕ) (kwh : List ℕ) → BookCall
  strike : (source : ℕ) → BookCall
  close : (calendar : Timetable) (profile : Weights) (invoice : List ℕ) → BookCall
  withdraw : Slip → BookCall
  reopen : BookCall

abbrev pub some_of : {A : Type 0} → (A → Bool) → List A → Bool
some_of q [] = false
some_of q (x ∷ xs) = q x || some_of q xs

abbrev pub sum_of : {A : Type 0} → (A → ℕ) → List A → ℕ
sum_of f [] = 0
sum_of f (x ∷ xs) = f x + sum_of f xs

-- ## What a book tells

abbrev pub is_open : Phase → Bool
is_open Open = true
is_open Closed = false
is_open Published = false

abbrev pub is_closed : Phase → Bool
is_closed Open = false
is_closed Closed = true
is_closed Published = false

abbrev pub is_published : Phase → Bool
is_published Open = false
is_published Closed = false
is_published Published = true

module _ (k : Book) where
  abbrev pub balance_of : ℕ → Option Balance
  balance_of source = slice_index_or k.balances (source - 1) None

  -- the slip of the last close
  abbrev pub slip_of : Slip
  slip_of = record { book = k.terms.number; close = k.closes }

  abbrev pub takes_slip : Slip → Bool
  takes_slip s = is_closed k.phase && s.book == k.terms.number && s.close == k.closes

  -- last − first, the register beginning again from 0 at its size
  abbrev pub difference : Registered → ℕ
  difference v = (v.last + k.terms.register - v.first) % k.terms.register

  abbrev pub no_register_value : Registered → Bool
  no_register_value v = nat_le k.terms.register v.first || nat_le k.terms.register v.last

  -- above 55 kWh for each hour of the billing period
  abbrev pub too_much : ℕ → Bool
  too_much kwh = nat_lt (55 * k.terms.hours) kwh

-- what a close of the book goes by, what it bills, and the curve that the closing rules give: a record for each hour
abbrev pub case_of : Book → Timetable → Weights → Case
case_of k cal prof = record { first = k.terms.first; hours = k.reads; calendar = cal; profile = prof }

abbrev pub bill_of : Book → Timetable → Weights → Billed
bill_of k cal prof = bill (case_of k cal prof) (balance_of k)

-- the records of n hours from place i on
abbrev pub curve_from : Terms → Case → Billed → List ℕ → ℕ → ℕ → List Record
curve_from t c b inv i zero = []
curve_from t c b inv i (suc n) =
    record { supply = t.supply; hour = t.first + i; wh = (closed_hour c b i).0; method = (closed_hour c b i).1; firmness = firmness c b; invoice = inv }
    ∷ curve_from t c b inv (suc i) n

abbrev pub curve_of : Book → Timetable → Weights → List ℕ → List Record
curve_of k cal prof inv = curve_from k.terms (case_of k cal prof) (bill_of k cal prof) inv 0 k.terms.hours

-- ## The calls

-- the tests of a call, in order
abbrev pub tests : Book → BookCall → List Test
tests k (reading r) =
    test 20 (not (is_open k.phase))
    ∷ test 1 (not (is_label r.label))
    ∷ test 2 (nat_lt r.present (meant r.label))
    ∷ test 3 (nat_lt (meant r.label) k.terms.integration)
    ∷ test 4 (nat_lt 55000 r.wh)
    ∷ test 5 (not r.valid)
    ∷ test 6 (not (between k.terms.first (k.terms.first + k.terms.hours - 1) (meant r.label)))
    ∷ []
tests k (balance s n total parts) =
    test 20 (not (is_open k.phase))
    ∷ test 12 (not (between 1 3 s && between 1 3 n && n == length parts))
    ∷ test 7 (some_of (no_register_value k) (total ∷ parts))
    ∷ test 8 (some_of (λ v. too_much k (difference k v)) (total ∷ parts))
    ∷ test 9 (not (difference k total == sum_of (difference k) parts))
    ∷ []
tests k (estimate s n kwh) =
    test 20 (not (is_open k.phase))
    ∷ test 12 (not (between 4 5 s && between 1 3 n && n == length kwh))
    ∷ test 8 (some_of (too_much k) kwh)
    ∷ []
tests k (strike s) =
    test 20 (not (is_open k.phase))
    ∷ test 12 (not (between 1 5 s))
    ∷ test 23 (not (is_some (balance_of k s)))
    ∷ []
tests k (close cal prof inv) =
    test 20 (not (is_open k.phase))
    ∷ test 36 (nat_le 1000000 k.closes)
    ∷ test 10 (not (is_invoice inv))
    ∷ test 28 (elim k.invoice [ None ↦ false | Some last ↦ same last inv ])
    ∷ closing_tests (case_of k cal prof) (balance_of k)
tests k (withdraw s) = test 22 (not (takes_slip k s)) ∷ []
tests k reopen = test 21 (not (is_published k.phase)) ∷ []

abbrev pub answer : Book → BookCall → Answer
answer k c = first_met (tests k c)

abbrev pub in_phase : Phase → Book → Book
in_phase p k = record { terms = k.terms; phase = p; reads = k.reads; balances = k.balances; closes = k.closes; curve = k.curve; invoice = k.invoice }

abbrev pub with_read : ℕ → ℕ → Book → Book
with_read h wh k = record {
  terms = k.terms;
  phase = k.phase;
  reads = slice_set k.reads (h - k.terms.first) (Some wh);
  balances = k.balances;
  closes = k.closes;
  curve = k.curve;
  invoice = k.invoice;
}

abbrev pub with_balance : ℕ → Option Balance → Book → Book
with_balance source b k = record {
  terms = k.terms;
  phase = k.phase;
  reads = k.reads;
  balances = slice_set k.balances (source - 1) b;
  closes = k.closes;
  curve = k.curve;
  invoice = k.invoice;
}

-- the book after a call that was granted
abbrev pub changed : Book → BookCall → Book
changed k (reading r) = with_read (meant r.label) r.wh k
changed k (balance s n total parts) = with_balance s (Some (record { periods = n; kwh = map (difference k) parts })) k
changed k (estimate s n kwh) = with_balance s (Some (record { periods = n; kwh = kwh })) k
changed k (strike s) = with_balance s None k
changed k (close cal prof inv) = record {
  terms = k.terms;
  phase = Closed;
  reads = k.reads;
  balances = k.balances;
  closes = k.closes + 1;
  curve = curve_of k cal prof inv;
  invoice = k.invoice;
}
changed k (withdraw s) = in_phase Open k
changed k reopen = in_phase Open k

-- the book after its curve was published
abbrev pub published : Book → Book
published k = record {
  terms = k.terms;
  phase = Published;
  reads = k.reads;
  balances = k.balances;
  closes = k.closes;
  curve = k.curve;
  invoice = elim k.curve [ [] ↦ k.invoice | r ∷ rs ↦ Some r.invoice ];
}
