-- What is told of a refusal: its number, the line of the file and the field there.
use Rattle.std.specs.Prelude.{ℕ, List, [], ◌∷◌, ◌++◌, decimal}
use Rattle.vocabulary.specs.declared.refusal.Field.{Field}
use Rattle.vocabulary.specs.declared.refusal.Field.TheVariants.{Supply, Label, Season, ActiveIn, ActiveOut, Reactive1, Reactive2, Reactive3, Reactive4, Method, Firmness, Invoice}
use Rattle.vocabulary.specs.declared.refusal.Notice.{Notice}
use Rattle.vocabulary.specs.declared.refusal.Refusal.{Refusal}
use Rattle.vocabulary.specs.declared.refusal.Refusal.TheVariants.{NoSuchLabel, AfterPresent, BeforeIntegration, TooMuchEnergy, InvalidReading, OutsideBillingPeriod, RegisterTooLarge, BalanceTooLarge, PeriodsDiffer, MalformedCode, BookOutOfRange, NotListed, MalformedName, MalformedLine, OutOfTurn, NoWeight, NoSuchDate, NotOpen, NotPublished, WrongSlipOrFile, NoBalance, NothingToShare, PeriodCountDiffers, PeriodWithoutHours, EstimateContradicted, InvoiceRepeated, FileOpen, DateBeforeLastFile, VersionsUsedUp, SupplyInFile, BufferTooShort, NotTheNextFile, TooFewPlaces, ClosesUsedUp}

-- the fields of a line by their letters, A (65) to L (76)
abbrev pub letter : Field → ℕ
letter Supply = 65
letter Label = 66
letter Season = 67
letter ActiveIn = 68
letter ActiveOut = 69
letter Reactive1 = 70
letter Reactive2 = 71
letter Reactive3 = 72
letter Reactive4 = 73
letter Method = 74
letter Firmness = 75
letter Invoice = 76

-- where there is no line it is 0, and where there is no field it is `-` (45)
abbrev pub in_line : ℕ → ℕ → ℕ → Notice
in_line n line field = record { number = n; line = line; field = field }

abbrev pub plain : ℕ → Notice
plain n = in_line n 0 45

abbrev pub notice : Refusal → Notice
notice NoSuchLabel = plain 1
notice AfterPresent = plain 2
notice BeforeIntegration = plain 3
notice TooMuchEnergy = plain 4
notice InvalidReading = plain 5
notice OutsideBillingPeriod = plain 6
notice RegisterTooLarge = plain 7
notice BalanceTooLarge = plain 8
notice PeriodsDiffer = plain 9
notice MalformedCode = plain 10
notice BookOutOfRange = plain 11
notice NotListed = plain 12
notice MalformedName = plain 13
notice (MalformedLine line field) = in_line 13 line (letter field)
notice (OutOfTurn line) = in_line 14 line 45
notice NoWeight = plain 15
notice NoSuchDate = plain 16
notice NotOpen = plain 20
notice NotPublished = plain 21
notice WrongSlipOrFile = plain 22
notice NoBalance = plain 23
notice NothingToShare = plain 24
notice PeriodCountDiffers = plain 25
notice PeriodWithoutHours = plain 26
notice EstimateContradicted = plain 27
notice InvoiceRepeated = plain 28
notice FileOpen = plain 29
notice DateBeforeLastFile = plain 30
notice VersionsUsedUp = plain 31
notice SupplyInFile = plain 32
notice BufferTooShort = plain 33
notice NotTheNextFile = plain 34
notice TooFewPlaces = plain 35
notice ClosesUsedUp = plain 36

-- a notice as it is written: `13;1;A;`
abbrev pub told : Notice → List ℕ
told n = decimal n.number ++ 59 ∷ (decimal n.line ++ 59 ∷ (n.field ∷ 59 ∷ []))
