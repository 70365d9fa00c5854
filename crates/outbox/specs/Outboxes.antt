-- The distributor's outbox and its files: what opening, publishing and sealing answer, and what they change.
use Rattle.std.specs.Prelude.{ℕ, ◌+◌, ◌-◌, Bool, true, false, cond, not, ◌&&◌, ltb, List, [], ◌∷◌, ◌++◌, length, is_some, Some, None, codes, Option, ◌==◌, nat_eq, nat_lt}
use Rattle.std.specs.Option.{unwrap_or}
use Rattle.book.specs.Books.{Book, Slip, some_of, takes_slip}
use Rattle.f5d.specs.Names.{Name}
use Rattle.f5d.specs.Records.{lines_length, Record, same}
use Rattle.f5d.specs.Written.{lines_text}
use Rattle.f5d.specs.declared.name.Word.{Word}
use Rattle.f5d.specs.declared.name.Word.TheVariants.{F5d, Rf5d}
use Rattle.official_time.specs.Dates.{day_of, is_date}
use Rattle.official_time.specs.declared.date.Date.{Date}
use Rattle.vocabulary.specs.Answers.{Test, test}

-- a file that curves are published in: its name, the length of its buffer and the curves so far, oldest first
pub record OpenFile : Type 0 where
  pub name : Name
  pub room : ℕ
  pub curves : List (List Record)

-- a file as it goes out: its name and its bytes
pub record SealedFile : Type 0 where
  pub name : Name
  pub bytes : List ℕ

-- the codes of distributor and retailer, the open file if there is one, and the sealed files, oldest first
pub record Outbox : Type 0 where
  pub distributor : List ℕ
  pub retailer : List ℕ
  pub open_file : Option OpenFile
  pub sealed : List SealedFile

abbrev pub flat : {A : Type 0} → List (List A) → List A
flat [] = []
flat (x ∷ xs) = x ++ flat xs

abbrev pub last_of : {A : Type 0} → List A → Option A
last_of [] = None
last_of (x ∷ []) = Some x
last_of (x ∷ y ∷ ys) = last_of (y ∷ ys)

-- the records of a file
abbrev pub records_of : OpenFile → List Record
records_of f = flat f.curves

-- ## Names

abbrev pub word_of : List ℕ → Option Word
word_of text = cond (same text (codes "F5D")) (Some F5d) (cond (same text (codes "RF5D")) (Some Rf5d) None)

abbrev pub same_word : Word → Word → Bool
same_word F5d F5d = true
same_word F5d Rf5d = false
same_word Rf5d F5d = false
same_word Rf5d Rf5d = true

abbrev pub same_date : Date → Date → Bool
same_date d e = d.year == e.year && d.month == e.month && d.day == e.day

abbrev pub same_name : Name → Name → Bool
same_name m n = same_word m.word n.word && same m.distributor n.distributor && same m.retailer n.retailer && same_date m.date n.date && m.version == n.version

-- the version that a file of this date gets: 0 for the first file and on a later date than the last sealed one's, else one more
abbrev pub version_on : Outbox → Date → ℕ
version_on o date = elim (last_of o.sealed) [ None ↦ 0 | Some f ↦ cond (nat_lt (day_of f.name.date) (day_of date)) 0 (f.name.version + 1) ]

-- ## The open file

module _ (o : Outbox) where
  abbrev pub names_open : Name → Bool
  names_open n = elim o.open_file [ None ↦ false | Some f ↦ same_name f.name n ]

  abbrev pub holds_supply : List ℕ → Bool
  holds_supply supply = elim o.open_file [ None ↦ false | Some f ↦ some_of (λ r. same r.supply supply) (records_of f) ]

  abbrev pub room_left : ℕ
  room_left = elim o.open_file [ None ↦ 0 | Some f ↦ f.room - lines_length (records_of f) ]

  -- the open file has this name, and no curve: there is no way to seal such a file
  abbrev pub names_empty : Name → Bool
  names_empty n = elim o.open_file [ None ↦ false | Some f ↦ same_name f.name n && nat_eq (length f.curves) 0 ]

-- ## The tests of the calls, in order

abbrev pub open_tests : Outbox → List ℕ → Date → List Test
open_tests o word date =
    test 12 (not (is_some (word_of word)))
    ∷ test 16 (not (is_date date))
    ∷ test 29 (is_some o.open_file)
    ∷ test 30 (elim (last_of o.sealed) [ None ↦ false | Some f ↦ ltb (day_of date) (day_of f.name.date) ])
    ∷ test 31 (nat_lt 255 (version_on o date))
    ∷ []

abbrev pub publish_tests : Outbox → Book → Slip → Name → List Test
publish_tests o k slip name =
    test 22 (not (takes_slip k slip && names_open o name))
    ∷ test 32 (holds_supply o k.terms.supply)
    ∷ test 33 (nat_lt (room_left o) (lines_length k.curve))
    ∷ []

abbrev pub seal_tests : Outbox → Name → List Test
seal_tests o name = test 22 (not (names_open o name)) ∷ []

-- ## The outbox after a granted opening, publication or sealing

abbrev pub with_files : Outbox → Option OpenFile → List SealedFile → Outbox
with_files o f fs = record { distributor = o.distributor; retailer = o.retailer; open_file = f; sealed = fs }

-- the name of a file that is opened
abbrev pub new_name : Outbox → List ℕ → Date → Name
new_name o word date =
    record { word = unwrap_or (word_of word) F5d; distributor = o.distributor; retailer = o.retailer; date = date; version = version_on o date }

abbrev pub opened : Outbox → List ℕ → Date → ℕ → Outbox
opened o word date room = with_files o (Some (record { name = new_name o word date; room = room; curves = [] })) o.sealed

abbrev pub with_curve : List Record → OpenFile → OpenFile
with_curve curve f = record { name = f.name; room = f.room; curves = f.curves ++ curve ∷ [] }

abbrev pub appended : Outbox → List Record → Outbox
appended o curve = with_files o (elim o.open_file [ None ↦ None | Some f ↦ Some (with_curve curve f) ]) o.sealed

-- the bytes of a file are the lines of its records
abbrev pub as_sealed : OpenFile → SealedFile
as_sealed f = record { name = f.name; bytes = lines_text (records_of f) }

abbrev pub sealed_up : Outbox → Outbox
sealed_up o = with_files o None (elim o.open_file [ None ↦ o.sealed | Some f ↦ o.sealed ++ as_sealed f ∷ [] ])
