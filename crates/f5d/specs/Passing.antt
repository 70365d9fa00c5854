-- What is known of the records that were passed, as the next one is looked at.
use Rattle.std.specs.Prelude.{◌≡◌, ℕ, ◌+◌, true, List, [], ◌∷◌, ◌++◌, take}
use Rattle.vocabulary.specs.Refusals.{in_line}
use Rattle.vocabulary.specs.declared.refusal.Notice.{Notice}
use Rattle.f5d.specs.Bytes.{Lower}
use Rattle.f5d.specs.Marking.{marked}
use Rattle.f5d.specs.Records.{can_bear, every_record, in_turn, Lines, Malformed, OutOfTurn, Record}
use Rattle.f5d.specs.declared.passed.Turns.{Turns}

-- no record is of a supply above this code
abbrev pub NoneAbove : List ℕ → List Record → Type 0
NoneAbove s [] = Unit {0}
NoneAbove s (r ∷ rs) = (Lower s r.supply → ⊥) × NoneAbove s rs

-- the last of the records, the highest code among them, and the marks of all
pub record Knows (t : Turns) (done : List Record) : Type 0 where
  pub front : List Record
  pub last : Record
  pub ends : done ≡ front ++ last ∷ []
  pub supply : last.supply ≡ t.last.supply.bytes
  pub hour : last.hour ≡ t.last.hour.number
  pub highest : NoneAbove t.highest.bytes done
  pub seen : every_record (λ r. marked t.marks.seen r.supply) done ≡ true

-- the bytes up to a place are the lines of the records `done`, in turn
pub record Passed (bytes : List ℕ) (at : ℕ) (done : List Record) : Type 0 where
  pub lines : Lines done (take at bytes)
  pub bear : every_record can_bear done ≡ true
  pub turn : in_turn done ≡ true

-- what is told of a file that is not accepted
pub data RefusedFile (bytes : List ℕ) : Notice → Type 0 where
  malformed : (line field : ℕ) → Malformed bytes line field → RefusedFile bytes (in_line 13 line (65 + field))
  out_of_turn : (line : ℕ) → OutOfTurn bytes line → RefusedFile bytes (in_line 14 line 45)
