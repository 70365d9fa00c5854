-- The names of files, and which file comes next after which.
use Rattle.std.specs.Prelude.{◌≡◌, ℕ, ◌+◌, ◌*◌, Bool, true, cond, not, ◌&&◌, ◌||◌, List, ◌∷◌, ◌++◌, length, take, drop, Some, None, codes, decimal, Option, ◌==◌, nat_le, nat_lt, slice_index}
use Rattle.official_time.specs.Dates.{day_of, is_date, on}
use Rattle.official_time.specs.Texts.{four_digits, two_digits}
use Rattle.official_time.specs.declared.date.Date.{Date}
use Rattle.vocabulary.specs.Codes.{is_participant}
use Rattle.f5d.specs.Records.{same}
use Rattle.f5d.specs.Reading.{leading, number, pair, pair_number}
use Rattle.vocabulary.specs.Codes.{digit}
use Rattle.f5d.specs.declared.name.Word.{Word}
use Rattle.f5d.specs.declared.name.Word.TheVariants.{F5d, Rf5d}

-- the word of the file, the codes of distributor and retailer, the date and the version
pub record Name : Type 0 where
  pub word : Word
  pub distributor : List ℕ
  pub retailer : List ℕ
  pub date : Date
  pub version : ℕ

-- F5D is a file of curves, RF5D one of curves that were sent before
abbrev pub word_text : Word → List ℕ
word_text F5d = codes "F5D"
word_text Rf5d = codes "RF5D"

-- the names that files can have
abbrev pub is_name : Name → Bool
is_name n = is_participant n.distributor && is_participant n.retailer && is_date n.date && nat_le n.version 255

-- aaaammdd
abbrev pub date_digits : Date → List ℕ
date_digits d = four_digits d.year ++ (two_digits d.month ++ two_digits d.day)

-- word_DIS_COM_aaaammdd.v; 95 is `_` and 46 is `.`
abbrev pub name_text : Name → List ℕ
name_text n = word_text n.word ++ 95 ∷ (n.distributor ++ 95 ∷ (n.retailer ++ 95 ∷ (date_digits n.date ++ 46 ∷ decimal n.version)))

-- n comes next after m: the next version on the same date, or the first on a later one
abbrev pub comes_next : Name → Name → Bool
comes_next m n =
    same m.distributor n.distributor && same m.retailer n.retailer && ((day_of n.date == day_of m.date && n.version == m.version + 1) || (nat_lt (day_of m.date) (day_of n.date) && n.version == 0))

-- ## How a name is read

-- the version: decimal to the end, at most three digits, and no 0 before others
abbrev pub version_written : List ℕ → Bool
version_written bytes =
    nat_le 1 (length bytes) && nat_le (length bytes) 3 && leading digit 3 bytes == length bytes && (length bytes == 1 || not (slice_index bytes 0 == 48)) && nat_le (number 0 bytes) 255

-- what stands behind the word: _DIS_COM_aaaammdd.v
abbrev pub named_behind : Word → List ℕ → Option Name
named_behind word b =
    let date = on (100 * pair_number b 11 + pair_number b 13) (pair_number b 15) (pair_number b 17) in
    cond (slice_index b 0 == 95 && is_participant (take 4 (drop 1 b)) && slice_index b 5 == 95 && is_participant (take 4 (drop 6 b)) && slice_index b 10 == 95 && (pair b 11 && pair b 13 && pair b 15 && pair b 17 && is_date date) && slice_index b 19 == 46 && version_written (drop 20 b))
    (Some (record { word = word; distributor = take 4 (drop 1 b); retailer = take 4 (drop 6 b); date = date; version = number 0 (drop 20 b) }))
    None

unfoldable pub read_name : List ℕ → Option Name
read_name bytes =
    cond (same (take 3 bytes) (codes "F5D")) (named_behind F5d (drop 3 bytes))
    (cond (same (take 4 bytes) (codes "RF5D")) (named_behind Rf5d (drop 4 bytes)) None)

-- the bytes are the name n
abbrev pub IsName : Name → List ℕ → Type 0
IsName n bytes = (is_name n ≡ true) × (name_text n ≡ bytes)

abbrev pub RightName : List ℕ → Option Name → Type 0
RightName bytes None = (n : Name) → IsName n bytes → ⊥
RightName bytes (Some n) = IsName n bytes

-- names are read rightly, and there is one right reading only
pub record NameReading : Type 0 where
  pub right : (bytes : List ℕ) → RightName bytes (read_name bytes)
  pub only : (bytes : List ℕ) (x : Option Name) → RightName bytes x → x ≡ read_name bytes
