-- What an outbox can be relied on for: its names are in turn, and a sealed file holds the curves that were published in it.
use Rattle.std.specs.Prelude.{◌≡◌, ℕ, suc, ◌<◌, true, List, [], ◌∷◌, ◌++◌, length, Some, None, Option}
use Rattle.book.specs.BookLaw.{Whole}
use Rattle.book.specs.Books.{Book, Slip}
use Rattle.f5d.specs.Names.{comes_next, is_name, Name}
use Rattle.f5d.specs.Records.{can_bear, every_record, Holds, in_turn, Record}
use Rattle.official_time.specs.declared.date.Date.{Date}
use Rattle.vocabulary.specs.Answers.{first_met, is_granted}
use Rattle.vocabulary.specs.Codes.{is_participant}
use Rattle.outbox.specs.Outboxes.{appended, last_of, open_tests, opened, OpenFile, Outbox, publish_tests, records_of, sealed_up, SealedFile}

-- a file's records are in turn and such that lines can bear them, and there are some once a curve was published
pub record FineFile (f : OpenFile) : Type 0 where
  pub bears : every_record can_bear (records_of f) ≡ true
  pub turn : in_turn (records_of f) ≡ true
  pub filled : 0 < length f.curves → 0 < length (records_of f)

-- n is the name of the next file after the last sealed one, or of a first file
abbrev pub NextName : Option SealedFile → Name → Type 0
NextName None n = n.version ≡ 0
NextName (Some f) n = comes_next f.name n ≡ true

-- the outbox's codes are well formed, and the last sealed file has them
abbrev pub HasCodes : Outbox → Option SealedFile → Type 0
HasCodes o None = Unit {0}
HasCodes o (Some f) = (f.name.distributor ≡ o.distributor) × (f.name.retailer ≡ o.retailer)

pub record Coded (o : Outbox) : Type 0 where
  pub distributor : is_participant o.distributor ≡ true
  pub retailer : is_participant o.retailer ≡ true
  pub last : HasCodes o (last_of o.sealed)

-- the open file of an outbox, if it has one
pub record Opened (before after : Outbox) : Type 0 where
  pub file : OpenFile
  pub here : after.open_file ≡ Some file
  pub named : is_name file.name ≡ true
  pub next : NextName (last_of before.sealed) file.name
  pub empty : records_of file ≡ []

-- a curve stands behind what was in the open file
pub record PublishedIn (f : OpenFile) (curve : List Record) (after : Outbox) : Type 0 where
  pub file : OpenFile
  pub here : after.open_file ≡ Some file
  pub same_name : file.name ≡ f.name
  pub behind : records_of file ≡ records_of f ++ curve
  pub fine : FineFile file

-- the file is the last of the sealed ones: under its name, with the lines of its records as its bytes
pub record SealedAs (f : OpenFile) (before after : Outbox) : Type 0 where
  pub file : SealedFile
  pub here : after.sealed ≡ before.sealed ++ file ∷ []
  pub same_name : file.name ≡ f.name
  pub holds : Holds file.bytes (records_of f)

pub record OutboxLaw : Type 0 where
  pub opening : (o : Outbox) (word : List ℕ) (date : Date) (room : ℕ) → Coded o → is_granted (first_met (open_tests o word date)) ≡ true →
      Opened o (opened o word date room)
  pub publishing : (o : Outbox) (f : OpenFile) (k : Book) (slip : Slip) (name : Name) (h n : ℕ) → o.open_file ≡ Some f → FineFile f →
      Whole k.terms.supply h (suc n) k.curve → every_record can_bear k.curve ≡ true → is_granted (first_met (publish_tests o k slip name)) ≡ true →
      PublishedIn f k.curve (appended o k.curve)
  pub sealing : (o : Outbox) (f : OpenFile) → o.open_file ≡ Some f → FineFile f → 0 < length f.curves → SealedAs f o (sealed_up o)
