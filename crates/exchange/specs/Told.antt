-- What the calls of a history tell by themselves, once it is known which were granted: what was read, billed, closed, published, sealed and offered.
use Rattle.std.specs.Prelude.{ℕ, zero, suc, Bool, false, cond, ◌&&◌, ◌||◌, List, [], ◌∷◌, ◌++◌, map, Some, None, Option, ◌==◌, nat_eq, slice_index_or}
use Rattle.std.specs.Option.{option_map, unwrap_or}
use Rattle.book.specs.Books as books
use Rattle.book.specs.Books.{Book, BookCall, curve_of, difference, Open, Reading, Terms, unused}
use Rattle.closing.specs.Closing.{Balance}
use Rattle.f5d.specs.Names.{Name, name_text}
use Rattle.f5d.specs.Records.{Record, same}
use Rattle.f5d.specs.Written.{lines_text}
use Rattle.official_time.specs.Hours.{meant}
use Rattle.outbox.specs.Outboxes.{same_name, SealedFile}
use Rattle.profile.specs.Weights.{Weights}
use Rattle.tariff.specs.Timetables.{Timetable}
use Rattle.exchange.specs.Exchange.{Call, load, nobody, on_book, open_file, publish, seal, Setting, was_granted}

abbrev pub terms_at : Setting → ℕ → Terms
terms_at s k = slice_index_or s.terms k nobody

-- ## What was read

abbrev pub reading_of : BookCall → Option Reading
reading_of (books.reading r) = Some r
reading_of (books.balance s n t ps) = None
reading_of (books.estimate s n ps) = None
reading_of (books.strike s) = None
reading_of (books.close c p i) = None
reading_of (books.withdraw s) = None
reading_of books.reopen = None

abbrev pub names_hour : BookCall → ℕ → Bool
names_hour c h = elim (reading_of c) [ None ↦ false | Some r ↦ nat_eq (meant r.label) h ]

abbrev pub energy_of : BookCall → ℕ
energy_of c = elim (reading_of c) [ None ↦ 0 | Some r ↦ r.wh ]

-- an hour of a book is read once a reading of it was granted, and the last one counts
abbrev pub last_reading : Setting → List Call → ℕ → ℕ → Option ℕ
last_reading s [] k h = None
last_reading s (on_book j c ∷ cs) k h =
    cond (j == k && names_hour c h && was_granted s cs (on_book j c)) (Some (energy_of c)) (last_reading s cs k h)
last_reading s (publish j q n ∷ cs) k h = last_reading s cs k h
last_reading s (open_file w d r ∷ cs) k h = last_reading s cs k h
last_reading s (seal n ∷ cs) k h = last_reading s cs k h
last_reading s (load n b ∷ cs) k h = last_reading s cs k h

-- ## Which balances are held

-- what a granted call does to the balance of a source: nothing, or it sets or strikes it
abbrev pub sets_balance : Terms → BookCall → ℕ → Option (Option Balance)
sets_balance t (books.reading r) x = None
sets_balance t (books.balance s n total ps) x =
    cond (s == x) (Some (Some (record { periods = n; kwh = map (difference (unused t)) ps }))) None
sets_balance t (books.estimate s n ps) x = cond (s == x) (Some (Some (record { periods = n; kwh = ps }))) None
sets_balance t (books.strike s) x = cond (s == x) (Some None) None
sets_balance t (books.close c p i) x = None
sets_balance t (books.withdraw s) x = None
sets_balance t books.reopen x = None

-- a source's balance is the last that was granted, unless it was struck since
abbrev pub last_balance : Setting → List Call → ℕ → ℕ → Option Balance
last_balance s [] k x = None
last_balance s (on_book j c ∷ cs) k x =
    cond (j == k && was_granted s cs (on_book j c))
    (unwrap_or (sets_balance (terms_at s k) c x) (last_balance s cs k x))
    (last_balance s cs k x)
last_balance s (publish j q n ∷ cs) k x = last_balance s cs k x
last_balance s (open_file w d r ∷ cs) k x = last_balance s cs k x
last_balance s (seal n ∷ cs) k x = last_balance s cs k x
last_balance s (load n b ∷ cs) k x = last_balance s cs k x

-- ## The curves of closes

-- the values of f at n places from i on
abbrev pub table : {A : Type 0} → (ℕ → A) → ℕ → ℕ → List A
table f i zero = []
table f i (suc n) = f i ∷ table f (suc i) n

-- book k with the hours and balances that the calls tell
abbrev pub as_told : Setting → List Call → ℕ → Book
as_told s cs k = record {
  terms = terms_at s k;
  phase = Open;
  reads = table (last_reading s cs k) (terms_at s k).first (terms_at s k).hours;
  balances = table (last_balance s cs k) 1 5;
  closes = 0;
  curve = [];
  invoice = None;
}

-- what a close brings
pub record Close : Type 0 where
  pub calendar : Timetable
  pub profile : Weights
  pub invoice : List ℕ

abbrev pub closes_by : BookCall → Option Close
closes_by (books.reading r) = None
closes_by (books.balance s n t ps) = None
closes_by (books.estimate s n ps) = None
closes_by (books.strike s) = None
closes_by (books.close c p i) = Some (record { calendar = c; profile = p; invoice = i })
closes_by (books.withdraw s) = None
closes_by books.reopen = None

-- the curve that the closing rules give a close of book k after the calls cs
abbrev pub curve_told : Setting → List Call → ℕ → Close → List Record
curve_told s cs k x = curve_of (as_told s cs k) x.calendar x.profile x.invoice

-- the curve of the last granted close of book k
abbrev pub last_closed : Setting → List Call → ℕ → List Record
last_closed s [] k = []
last_closed s (on_book j c ∷ cs) k =
    cond (j == k && was_granted s cs (on_book j c))
    (elim (closes_by c) [ None ↦ last_closed s cs k | Some x ↦ curve_told s cs k x ])
    (last_closed s cs k)
last_closed s (publish j q n ∷ cs) k = last_closed s cs k
last_closed s (open_file w d r ∷ cs) k = last_closed s cs k
last_closed s (seal n ∷ cs) k = last_closed s cs k
last_closed s (load n b ∷ cs) k = last_closed s cs k

-- ## Which files were sealed

-- the curves that were published in the file of this name, oldest first
abbrev pub published_under : Setting → List Call → Name → List Record
published_under s [] n = []
published_under s (on_book j c ∷ cs) n = published_under s cs n
published_under s (publish j q m ∷ cs) n =
    cond (was_granted s cs (publish j q m) && same_name m n) (published_under s cs n ++ last_closed s cs j) (published_under s cs n)
published_under s (open_file w d r ∷ cs) n = published_under s cs n
published_under s (seal m ∷ cs) n = published_under s cs n
published_under s (load m b ∷ cs) n = published_under s cs n

-- a granted seal seals the file of its name with the lines of these curves; oldest first
abbrev pub sealed_told : Setting → List Call → List SealedFile
sealed_told s [] = []
sealed_told s (on_book j c ∷ cs) = sealed_told s cs
sealed_told s (publish j q n ∷ cs) = sealed_told s cs
sealed_told s (open_file w d r ∷ cs) = sealed_told s cs
sealed_told s (seal n ∷ cs) =
    cond (was_granted s cs (seal n)) (sealed_told s cs ++ record { name = n; bytes = lines_text (published_under s cs n) } ∷ []) (sealed_told s cs)
sealed_told s (load n b ∷ cs) = sealed_told s cs

-- ## Which files were offered

-- the name and the bytes that the file was sealed with
abbrev pub is_file : SealedFile → List ℕ → List ℕ → Bool
is_file f name bytes = same (name_text f.name) name && same f.bytes bytes

-- the place of the sealed file that has them
abbrev pub place_of : List SealedFile → List ℕ → List ℕ → Option ℕ
place_of [] name bytes = None
place_of (f ∷ fs) name bytes = cond (is_file f name bytes) (Some 0) (option_map suc (place_of fs name bytes))

-- the sealed file that a load offers, by its place; none where it loads something else
abbrev pub offers : Setting → List Call → List ℕ → List ℕ → Option ℕ
offers s cs name bytes = place_of (sealed_told s cs) name bytes

abbrev pub is_place : Option ℕ → ℕ → Bool
is_place None k = false
is_place (Some j) k = j == k

abbrev pub offered : Setting → List Call → ℕ → Bool
offered s [] k = false
offered s (on_book j c ∷ cs) k = offered s cs k
offered s (publish j q n ∷ cs) k = offered s cs k
offered s (open_file w d r ∷ cs) k = offered s cs k
offered s (seal n ∷ cs) k = offered s cs k
offered s (load n b ∷ cs) k = is_place (offers s cs n b) k || offered s cs k

-- ## What was published in offered files

-- some file of this name was sealed and offered; the files are those from place i on
abbrev pub name_offered : (ℕ → Bool) → List SealedFile → ℕ → Name → Bool
name_offered off [] i n = false
name_offered off (f ∷ fs) i n = (same_name f.name n && off i) || name_offered off fs (suc i) n

-- the curve of a supply that was last published in a file that was offered by now; `all` are the calls by now
abbrev pub last_published : Setting → List Call → List Call → List ℕ → List Record
last_published s all [] u = []
last_published s all (on_book j c ∷ cs) u = last_published s all cs u
last_published s all (publish j q n ∷ cs) u =
    cond (same (terms_at s j).supply u && was_granted s cs (publish j q n) && name_offered (offered s all) (sealed_told s all) 0 n)
    (last_closed s cs j)
    (last_published s all cs u)
last_published s all (open_file w d r ∷ cs) u = last_published s all cs u
last_published s all (seal n ∷ cs) u = last_published s all cs u
last_published s all (load n b ∷ cs) u = last_published s all cs u
