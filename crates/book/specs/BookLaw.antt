-- What a book can be relied on for: its curves are right, whole, and such that lines can bear them.
use Rattle.std.specs.Prelude.{◌≡◌, ℕ, suc, ◌+◌, ◌*◌, ◌≤◌, true, List, [], ◌∷◌, map, length, Some, None, Option, slice_index}
use Rattle.std.specs.List.{AllByRecursion}
use Rattle.closing.specs.Closing.{Balance}
use Rattle.closing.specs.Curves.{RightCurve}
use Rattle.f5d.specs.Records.{can_bear, every_record, Record}
use Rattle.profile.specs.Weights.{Weights}
use Rattle.tariff.specs.Timetables.{Timetable}
use Rattle.vocabulary.specs.Answers.{is_granted}
use Rattle.book.specs.Books.{answer, bill_of, Book, BookCall, case_of, changed, close, is_book, published, Terms, unused}

-- the Wh at place i of a curve
abbrev pub energy_at : List Record → ℕ → ℕ
energy_at rs i = slice_index (map (λ r. r.wh) rs) i

-- the records of a supply for n hours from h on, one after the other
pub data Whole (supply : List ℕ) : ℕ → ℕ → List Record → Type 0 where
  done : {h : ℕ} → Whole supply h 0 []
  more : {h n : ℕ} {r : Record} {rs : List Record} → r.supply ≡ supply → r.hour ≡ h → Whole supply (h + 1) n rs → Whole supply h (suc n) (r ∷ rs)

-- what a read hour and a balance can be
abbrev pub ReadLimit : Option ℕ → Type 0
ReadLimit None = Unit {0}
ReadLimit (Some wh) = wh ≤ 55000

abbrev pub BalanceLimit : ℕ → Option Balance → Type 0
BalanceLimit hours None = Unit {0}
BalanceLimit hours (Some b) = AllByRecursion (λ kwh. kwh ≤ 55 * hours) b.kwh

-- a book as it is begun, or as granted calls left it
pub record Sound (k : Book) : Type 0 where
  pub begun : is_book k.terms ≡ true
  pub hours : length k.reads ≡ k.terms.hours
  pub read : AllByRecursion ReadLimit k.reads
  pub billed : AllByRecursion (BalanceLimit k.terms.hours) k.balances

-- what is promised of the curve that a granted close gives the book
pub record FineCurve (k : Book) (cal : Timetable) (prof : Weights) (curve : List Record) : Type 0 where
  pub right : RightCurve (case_of k cal prof) (bill_of k cal prof) (energy_at curve)
  pub whole : Whole k.terms.supply k.terms.first k.terms.hours curve
  pub bears : every_record can_bear curve ≡ true

pub record BookLaw : Type 0 where
  pub begins : (t : Terms) → is_book t ≡ true → Sound (unused t)
  pub stays : (k : Book) (c : BookCall) → Sound k → is_granted (answer k c) ≡ true → Sound (changed k c)
  pub publishing : (k : Book) → Sound k → Sound (published k)
  pub closes : (k : Book) (cal : Timetable) (prof : Weights) (inv : List ℕ) → Sound k → is_granted (answer k (close cal prof inv)) ≡ true →
      FineCurve k cal prof (changed k (close cal prof inv)).curve
