-- The retailer's ledger, and what loading a file answers and changes.
use Rattle.std.specs.Prelude.{ℕ, ◌+◌, Bool, cond, not, ◌&&◌, List, [], ◌∷◌, length, Some, None, Option, ◌==◌, nat_lt}
use Rattle.f5d.specs.Names.{comes_next, Name, read_name}
use Rattle.f5d.specs.Reading.{FileRead, holds, malformed, out_of_turn, read_file}
use Rattle.f5d.specs.Records.{Record, same}
use Rattle.vocabulary.specs.Answers.{Answer, first_met, refused, test}
use Rattle.vocabulary.specs.Refusals.{in_line, plain}

-- at most `places` records, one at most for a supply and an hour, and the name of the file that was loaded last
pub record Ledger : Type 0 where
  pub places : ℕ
  pub records : List Record
  pub last : Option Name

abbrev pub same_key : Record → Record → Bool
same_key r q = same r.supply q.supply && r.hour == q.hour

-- a record takes the place of the one under its supply and hour, or joins; the order is left to the sorted table
abbrev pub put : Record → List Record → List Record
put r [] = r ∷ []
put r (q ∷ qs) = cond (same_key r q) (r ∷ qs) (q ∷ put r qs)

abbrev pub put_all : List Record → List Record → List Record
put_all [] qs = qs
put_all (r ∷ rs) qs = put_all rs (put r qs)

-- the record under a supply and an hour
abbrev pub record_of : List ℕ → ℕ → List Record → Option Record
record_of supply hour [] = None
record_of supply hour (r ∷ rs) = cond (same r.supply supply && r.hour == hour) (Some r) (record_of supply hour rs)

-- ## Loading

-- not the next file after the last loaded one, or a first one that is not version 0
abbrev pub not_next : Option Name → Name → Bool
not_next None n = not (n.version == 0)
not_next (Some m) n = not (comes_next m n)

-- fields are told by their letters, from A (65) on, and `-` (45) stands for none
abbrev pub lines_answer : Ledger → FileRead → Answer
lines_answer l (malformed line field) = refused (in_line 13 line (65 + field))
lines_answer l (out_of_turn line) = refused (in_line 14 line 45)
lines_answer l (holds rs) = first_met (test 35 (nat_lt l.places (length (put_all rs l.records))) ∷ [])

-- the name first, then its turn, then the lines, then the places
abbrev pub load_answer : Ledger → List ℕ → List ℕ → Answer
load_answer l name bytes =
    elim (read_name name) [
      | None ↦ refused (plain 13)
      | Some n ↦ cond (not_next l.last n) (refused (plain 34)) (lines_answer l (read_file bytes))
    ]

-- the records of a file, none where it is malformed or out of turn
abbrev pub records_in : FileRead → List Record
records_in (malformed line field) = []
records_in (out_of_turn line) = []
records_in (holds rs) = rs

-- the ledger after a load that was granted: every line is put
abbrev pub loaded : Ledger → List ℕ → List ℕ → Ledger
loaded l name bytes = record { places = l.places; records = put_all (records_in (read_file bytes)) l.records; last = read_name name }
