-- What an office and its retailer can rely on, after any list of calls.
use Rattle.std.specs.Prelude.{◌≡◌, ℕ, ◌<◌, ◌≤◌, Bool, true, false, cond, not, ◌&&◌, List, [], ◌∷◌, Some, None, Option, nat_eq}
use Rattle.std.specs.List.{AllByRecursion}
use Rattle.book.specs.BookLaw.{energy_at}
use Rattle.book.specs.Books as books
use Rattle.book.specs.Books.{bill_of, case_of, is_book, some_of, sum_of}
use Rattle.closing.specs.Closing.{Billed, Case}
use Rattle.closing.specs.Curves.{EveryPeriodBilled, MissingHoursShare, ReadHoursStay, WeightsKnown, Within1KWh}
use Rattle.f5d.specs.Records.{same}
use Rattle.retail.specs.Ledgers.{record_of}
use Rattle.vocabulary.specs.Answers.{granted, refused}
use Rattle.vocabulary.specs.Codes.{is_participant}
use Rattle.vocabulary.specs.Refusals.{plain}
use Rattle.exchange.specs.Exchange.{answer, book_at, Call, load, on_book, open_file, publish, seal, Setting, was_granted, world}
use Rattle.exchange.specs.Told.{as_told, Close, closes_by, curve_told, last_published, offered, offers, sealed_told}

-- ## The setting

abbrev pub all_apart : {A : Type 0} → (A → A → Bool) → List A → Bool
all_apart e [] = true
all_apart e (x ∷ xs) = not (some_of (e x) xs) && all_apart e xs

-- books begun rightly, with different numbers and for different supplies, well-formed codes, and a place in the ledger for
-- every hour of the books; all books are unused, the ledger is empty, and there is no file (`start`)
pub record Fits (s : Setting) : Type 0 where
  pub begun : AllByRecursion (λ t. is_book t ≡ true) s.terms
  pub numbers : all_apart (λ t u. nat_eq t.number u.number) s.terms ≡ true
  pub supplies : all_apart (λ t u. same t.supply u.supply) s.terms ≡ true
  pub distributor : is_participant s.distributor ≡ true
  pub retailer : is_participant s.retailer ≡ true
  pub places : sum_of (λ t. t.hours) s.terms ≤ s.places

-- ## Files and ledger

-- A load of a sealed file comes in turn if every file sealed earlier was offered before; a load of anything else must have
-- been refused, since a foreign file that is granted changes the ledger.
abbrev pub LoadInTurn : Setting → List Call → Call → Option ℕ → Type 0
LoadInTurn s cs c None = was_granted s cs c ≡ false
LoadInTurn s cs c (Some k) = (j : ℕ) → j < k → offered s cs j ≡ true

abbrev pub OfferedInTurn : Setting → List Call → Type 0
OfferedInTurn s [] = Unit {0}
OfferedInTurn s (on_book k c ∷ cs) = OfferedInTurn s cs
OfferedInTurn s (publish k q n ∷ cs) = OfferedInTurn s cs
OfferedInTurn s (open_file w d r ∷ cs) = OfferedInTurn s cs
OfferedInTurn s (seal n ∷ cs) = OfferedInTurn s cs
OfferedInTurn s (load n b ∷ cs) = LoadInTurn s cs (load n b) (offers s cs n b) × OfferedInTurn s cs

-- a sealed file's first offer is granted, and each later one refused with 34
abbrev pub OfferAnswered : Setting → List Call → Call → Option ℕ → Type 0
OfferAnswered s cs c None = Unit {0}
OfferAnswered s cs c (Some k) = answer (world s cs) c ≡ Some (cond (offered s cs k) (refused (plain 34)) granted)

abbrev pub OffersAnswered : Setting → List Call → Type 0
OffersAnswered s [] = Unit {0}
OffersAnswered s (on_book k c ∷ cs) = OffersAnswered s cs
OffersAnswered s (publish k q n ∷ cs) = OffersAnswered s cs
OffersAnswered s (open_file w d r ∷ cs) = OffersAnswered s cs
OffersAnswered s (seal n ∷ cs) = OffersAnswered s cs
OffersAnswered s (load n b ∷ cs) = OfferAnswered s cs (load n b) (offers s cs n b) × OffersAnswered s cs

-- under every supply and hour the ledger holds exactly the record of the curve last published in an offered file
abbrev pub LedgerHolds : Setting → List Call → Type 0
LedgerHolds s cs = (supply : List ℕ) (hour : ℕ) → record_of supply hour (world s cs).ledger.records ≡ record_of supply hour (last_published s cs cs supply)

pub record FilesAndLedger (s : Setting) (cs : List Call) : Type 0 where
  pub answers : OffersAnswered s cs
  pub ledger : LedgerHolds s cs

-- ## The curve of a close

-- the calls cs came before a close of book k that was granted
module _ (s : Setting) (cs : List Call) (k : ℕ) (x : Close) where
  -- hours, calendar and profile as the calls tell them, and what is billed then
  abbrev pub case_told : Case
  case_told = case_of (as_told s cs k) x.calendar x.profile

  abbrev pub bill_told : Billed
  bill_told = bill_of (as_told s cs k) x.calendar x.profile

  abbrev pub told_energy : ℕ → ℕ
  told_energy = energy_at (curve_told s cs k x)

  pub record CurveOfClose : Type 0 where
    pub exact_curve : (book_at (world s (on_book k (books.close x.calendar x.profile x.invoice) ∷ cs)) k).curve ≡ curve_told s cs k x
    pub every_period : EveryPeriodBilled case_told bill_told
    pub weights : WeightsKnown case_told bill_told
    pub within_1_kwh : Within1KWh case_told bill_told told_energy
    pub read_hours : ReadHoursStay case_told bill_told told_energy
    pub missing_hours : MissingHoursShare case_told bill_told told_energy

abbrev pub CurvesOfCloses : Setting → List Call → Type 0
CurvesOfCloses s [] = Unit {0}
CurvesOfCloses s (on_book k c ∷ cs) =
    (was_granted s cs (on_book k c) ≡ true → (x : Close) → closes_by c ≡ Some x → CurveOfClose s cs k x) × CurvesOfCloses s cs
CurvesOfCloses s (publish k q n ∷ cs) = CurvesOfCloses s cs
CurvesOfCloses s (open_file w d r ∷ cs) = CurvesOfCloses s cs
CurvesOfCloses s (seal n ∷ cs) = CurvesOfCloses s cs
CurvesOfCloses s (load n b ∷ cs) = CurvesOfCloses s cs

-- ## The law

pub record ReliedOn (s : Setting) (cs : List Call) : Type 0 where
  pub sealed_files : (world s cs).outbox.sealed ≡ sealed_told s cs
  pub files_and_ledger : OfferedInTurn s cs → FilesAndLedger s cs
  pub curves : CurvesOfCloses s cs

abbrev pub ExchangeLaw : Type 0
ExchangeLaw = (s : Setting) → Fits s → (cs : List Call) → ReliedOn s cs
