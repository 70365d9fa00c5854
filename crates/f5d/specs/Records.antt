-- The record of an hour, its line, and which bytes are a file of records.
use Rattle.std.specs.Prelude.{◌≡◌, ℕ, suc, ◌+◌, ◌<◌, Bool, true, false, cond, not, ◌&&◌, ◌||◌, List, [], ◌∷◌, ◌++◌, length, take, decimal, ◌==◌, nat_eq, nat_le, nat_lt}
use Rattle.std.specs.Cmp.Lexicographic.{pointwise}
use Rattle.std.specs.List.{concat, list_all}
use Rattle.official_time.specs.Hours.{is_hour, IsLabel}
use Rattle.official_time.specs.Texts.{label_text}
use Rattle.official_time.specs.declared.label.Label.{Label}
use Rattle.vocabulary.specs.Codes.{is_invoice, is_supply}
use Rattle.vocabulary.specs.Ranges.{between}

-- what is told of an hour of a supply: its energy, how that was come by (method 1 to 6), whether it is firm (1) or provisional (0), and the invoice
pub record Record : Type 0 where
  pub supply : List ℕ
  pub hour : ℕ
  pub wh : ℕ
  pub method : ℕ
  pub firmness : ℕ
  pub invoice : List ℕ

-- ## The line of a record

-- the records that a line can bear; ten digits hold the energy
abbrev pub can_bear : Record → Bool
can_bear r = is_supply r.supply && is_hour r.hour && nat_le r.wh 9999999999 && between 1 6 r.method && nat_le r.firmness 1 && is_invoice r.invoice

-- a field ends with `;`
abbrev pub ended : List ℕ → List ℕ
ended text = text ++ 59 ∷ []

-- the fields of a line, A to L, each with what ends it; the line itself ends with byte 10. `l` is the label of the hour
abbrev pub fields : Label → Record → List (List ℕ)
fields l r =
    ended r.supply
    ∷ ended (label_text l)
    ∷ ended ((48 + l.flag) ∷ [])
    ∷ ended (decimal r.wh)
    ∷ ended []
    ∷ ended []
    ∷ ended []
    ∷ ended []
    ∷ ended []
    ∷ ended ((48 + r.method) ∷ [])
    ∷ ended ((48 + r.firmness) ∷ [])
    ∷ (r.invoice ++ 59 ∷ 10 ∷ [])
    ∷ []

-- the bytes are the line of r
pub record IsLine (r : Record) (bytes : List ℕ) : Type 0 where
  pub label : Label
  pub labels : IsLabel r.hour label
  pub written : bytes ≡ concat (fields label r)

-- how many bytes the line of a record has, and the lines of several
abbrev pub line_length : Record → ℕ
line_length r = 54 + length (decimal r.wh) + length r.invoice

abbrev pub lines_length : List Record → ℕ
lines_length [] = 0
lines_length (r ∷ rs) = line_length r + lines_length rs

-- the bytes are the lines of these records
pub data Lines : List Record → List ℕ → Type 0 where
  none : Lines [] []
  one_more : {r : Record} {rs : List Record} {line bytes : List ℕ} → IsLine r line → Lines rs bytes → Lines (r ∷ rs) (line ++ bytes)

-- ## The order of records in a file

abbrev pub same : List ℕ → List ℕ → Bool
same = pointwise nat_eq

-- no record is of this supply
abbrev pub apart : List ℕ → List Record → Bool
apart s [] = true
apart s (r ∷ rs) = not (same s r.supply) && apart s rs

-- behind a record come later hours of its supply, or other supplies only
abbrev pub follows_on : Record → List Record → Bool
follows_on r [] = true
follows_on r (q ∷ rs) = cond (same r.supply q.supply) (nat_lt r.hour q.hour) (apart r.supply (q ∷ rs))

-- hours of a supply rise, and no supply is taken up again
abbrev pub in_turn : List Record → Bool
in_turn [] = true
in_turn (r ∷ rs) = follows_on r rs && in_turn rs

-- ## Which bytes are a file, and what is wrong with others

abbrev pub every_record : (Record → Bool) → List Record → Bool
every_record = list_all

-- a file holds these records: one or more that lines can bear, in turn, and their lines are the bytes
pub record Holds (bytes : List ℕ) (rs : List Record) : Type 0 where
  pub some : 0 < length rs
  pub bear : every_record can_bear rs ≡ true
  pub turn : in_turn rs ≡ true
  pub lines : Lines rs bytes

-- the bytes begin with the first n fields of the line of some record
pub record Begins (n : ℕ) (bytes : List ℕ) : Type 0 where
  pub some : Record
  pub bears : can_bear some ≡ true
  pub label : Label
  pub labels : IsLabel some.hour label
  pub rest : List ℕ
  pub split : bytes ≡ concat (take n (fields label some)) ++ rest

-- field n, counted from 0, is the first bad one: some record agrees with the bytes in all fields before it, and none in it too
pub record FirstBad (n : ℕ) (bytes : List ℕ) : Type 0 where
  pub before : Begins n bytes
  pub here : Begins (suc n) bytes → ⊥

-- line k (from 1) is malformed, and field n is the first bad one there; a file with no byte has a first line
pub record Malformed (bytes : List ℕ) (k n : ℕ) : Type 0 where
  pub good : List Record
  pub front : List ℕ
  pub rest : List ℕ
  pub split : bytes ≡ front ++ rest
  pub lines : Lines good front
  pub bear : every_record can_bear good ≡ true
  pub turn : in_turn good ≡ true
  pub line : k ≡ length good + 1
  pub more : (length good == 0 || nat_lt 0 (length rest)) ≡ true
  pub bad : FirstBad n rest

-- line k is well formed, and out of turn
pub record OutOfTurn (bytes : List ℕ) (k : ℕ) : Type 0 where
  pub good : List Record
  pub next : Record
  pub front : List ℕ
  pub rest : List ℕ
  pub split : bytes ≡ front ++ rest
  pub lines : Lines (good ++ next ∷ []) front
  pub bear : every_record can_bear (good ++ next ∷ []) ≡ true
  pub turn : in_turn good ≡ true
  pub breaks : in_turn (good ++ next ∷ []) ≡ false
  pub line : k ≡ length good + 1
