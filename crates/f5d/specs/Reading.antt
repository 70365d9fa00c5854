-- How lines and files are read. What the readings mean, Records says; `Line-reading` and `File-reading` say that they are right.
use Rattle.std.specs.Prelude.{◌≡◌, ℕ, zero, suc, ◌+◌, ◌-◌, ◌*◌, Bool, true, cond, not, ◌&&◌, ◌||◌, List, [], ◌∷◌, ◌++◌, length, take, drop, ◌==◌, nat_le, slice_index}
use Rattle.official_time.specs.Dates.{on}
use Rattle.official_time.specs.Hours.{is_label, meant}
use Rattle.official_time.specs.declared.label.Label.{Label}
use Rattle.vocabulary.specs.Codes.{digit, is_supply, visible}
use Rattle.vocabulary.specs.Ranges.{between}
use Rattle.f5d.specs.Records.{Record, can_bear, FirstBad, Holds, in_turn, IsLine, Malformed, OutOfTurn}

-- what a line reads as: a first bad field, counted from 0, or a record and the bytes behind its line
pub data LineRead : Type 0 where
  bad : ℕ → LineRead
  good : Record → List ℕ → LineRead

-- at place k stands `;`
abbrev pub ends_at : List ℕ → ℕ → Bool
ends_at bytes k = slice_index bytes k == 59

-- how many of the first n bytes pass the test before one does not
abbrev pub leading : (ℕ → Bool) → ℕ → List ℕ → ℕ
leading test zero bytes = 0
leading test (suc n) [] = 0
leading test (suc n) (b ∷ bytes) = cond (test b) (suc (leading test n bytes)) 0

-- the number that digits write
abbrev pub number : ℕ → List ℕ → ℕ
number n [] = n
number n (b ∷ bytes) = number (10 * n + (b - 48)) bytes

-- the two digits at place k, and their number
abbrev pub pair : List ℕ → ℕ → Bool
pair bytes k = digit (slice_index bytes k) && digit (slice_index bytes (suc k))

abbrev pub pair_number : List ℕ → ℕ → ℕ
pair_number bytes k = 10 * (slice_index bytes k - 48) + (slice_index bytes (suc k) - 48)

-- the bytes begin with `aaaa/mm/dd hh:mm;`
abbrev pub clock_written : List ℕ → Bool
clock_written b =
    pair b 0 && pair b 2 && slice_index b 4 == 47 && pair b 5 && slice_index b 7 == 47 && pair b 8 && slice_index b 10 == 32 && pair b 11 && slice_index b 13 == 58 && pair b 14 && ends_at b 16

-- the label that is written so, under a flag
abbrev pub label_under : List ℕ → ℕ → Label
label_under b flag = record {
  date = on (100 * pair_number b 0 + pair_number b 2) (pair_number b 5) (pair_number b 8);
  hour = pair_number b 11;
  minute = pair_number b 14;
  second = 0;
  flag = flag;
}

-- one digit from a least to a greatest, and `;`
abbrev pub one_digit : ℕ → ℕ → List ℕ → Bool
one_digit low high bytes = between (48 + low) (48 + high) (slice_index bytes 0) && ends_at bytes 1

-- L, and the line's end
abbrev pub read_invoice : List ℕ → ℕ → ℕ → ℕ → ℕ → List ℕ → LineRead
read_invoice supply hour wh method firmness bytes =
    let k = leading visible 26 bytes in
    cond (nat_le 1 k && ends_at bytes k && slice_index bytes (suc k) == 10)
    (good (record { supply = supply; hour = hour; wh = wh; method = method; firmness = firmness; invoice = take k bytes }) (drop (2 + k) bytes))
    (bad 11)

-- J and K
abbrev pub read_firmness : List ℕ → ℕ → ℕ → ℕ → List ℕ → LineRead
read_firmness supply hour wh method bytes =
    cond (one_digit 0 1 bytes) (read_invoice supply hour wh method (slice_index bytes 0 - 48) (drop 2 bytes)) (bad 10)

abbrev pub read_method : List ℕ → ℕ → ℕ → List ℕ → LineRead
read_method supply hour wh bytes =
    cond (one_digit 1 6 bytes) (read_firmness supply hour wh (slice_index bytes 0 - 48) (drop 2 bytes)) (bad 9)

-- E to I, which are empty: n of them are left
abbrev pub read_empty : ℕ → List ℕ → ℕ → ℕ → List ℕ → LineRead
read_empty zero supply hour wh bytes = read_method supply hour wh bytes
read_empty (suc n) supply hour wh bytes = cond (ends_at bytes 0) (read_empty n supply hour wh (drop 1 bytes)) (bad (8 - n))

-- D: at most ten digits, and no 0 before others
abbrev pub read_energy : List ℕ → ℕ → List ℕ → LineRead
read_energy supply hour bytes =
    let k = leading digit 10 bytes in
    cond (nat_le 1 k && ends_at bytes k && (k == 1 || not (slice_index bytes 0 == 48)))
    (read_empty 5 supply hour (number 0 (take k bytes)) (drop (suc k) bytes))
    (bad 3)

-- C: the label's flag
abbrev pub read_flag : List ℕ → List ℕ → LineRead
read_flag supply bytes =
    let flag = slice_index bytes 17 - 48 in
    cond (one_digit 0 1 (drop 17 bytes) && is_label (label_under bytes flag)) (read_energy supply (meant (label_under bytes flag)) (drop 19 bytes)) (bad 2)

-- B: a label that some hour has, under one flag or the other
abbrev pub read_label : List ℕ → List ℕ → LineRead
read_label supply bytes =
    cond (clock_written bytes && (is_label (label_under bytes 0) || is_label (label_under bytes 1))) (read_flag supply bytes) (bad 1)

-- A, and the fields behind it
unfoldable pub read_line : List ℕ → LineRead
read_line bytes = cond (is_supply (take 22 bytes) && ends_at bytes 22) (read_label (take 22 bytes) (drop 23 bytes)) (bad 0)

-- what a file reads as: a first malformed line and its first bad field, a first line out of turn, or records
pub data FileRead : Type 0 where
  malformed : (line field : ℕ) → FileRead
  out_of_turn : (line : ℕ) → FileRead
  holds : List Record → FileRead

-- the lines behind the records `done`, of which there are fewer than n
abbrev pub read_lines : ℕ → List Record → List ℕ → FileRead
read_lines zero done bytes = holds done
read_lines (suc n) done bytes =
    elim (read_line bytes) [
      | bad f ↦ malformed (length done + 1) f
      | good r rest ↦
          cond (in_turn (done ++ r ∷ []))
          (cond (length rest == 0) (holds (done ++ r ∷ [])) (read_lines n (done ++ r ∷ []) rest))
          (out_of_turn (length done + 1))
    ]

unfoldable pub read_file : List ℕ → FileRead
read_file bytes = read_lines (suc (length bytes)) [] bytes

-- ## What the readings mean

-- bytes begin with the line of a record, or their first bad field is n
pub record LineHere (bytes : List ℕ) (r : Record) (rest : List ℕ) : Type 0 where
  pub line : List ℕ
  pub bears : can_bear r ≡ true
  pub is_line : IsLine r line
  pub split : bytes ≡ line ++ rest

abbrev pub RightLine : List ℕ → LineRead → Type 0
RightLine bytes (bad n) = FirstBad n bytes
RightLine bytes (good r rest) = LineHere bytes r rest

abbrev pub RightFile : List ℕ → FileRead → Type 0
RightFile bytes (malformed k n) = Malformed bytes k n
RightFile bytes (out_of_turn k) = OutOfTurn bytes k
RightFile bytes (holds rs) = Holds bytes rs

-- lines and files are read rightly, and there is one right reading only
pub record LineReading : Type 0 where
  pub right : (bytes : List ℕ) → RightLine bytes (read_line bytes)
  pub only : (bytes : List ℕ) (x : LineRead) → RightLine bytes x → x ≡ read_line bytes

pub record FileReading : Type 0 where
  pub right : (bytes : List ℕ) → RightFile bytes (read_file bytes)
  pub only : (bytes : List ℕ) (x : FileRead) → RightFile bytes x → x ≡ read_file bytes
