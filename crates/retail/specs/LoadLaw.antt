-- What loading can be relied on for, told by what name and bytes are and not by how they are read.
use Rattle.std.specs.Prelude.{◌≡◌, ℕ, ◌+◌, ◌<◌, ◌≤◌, true, cond, List, [], ◌∷◌, length, is_some, Some, None, Option}
use Rattle.f5d.specs.Names.{comes_next, IsName, Name}
use Rattle.f5d.specs.Records.{Holds, Malformed, OutOfTurn, Record}
use Rattle.vocabulary.specs.Answers.{granted, refused}
use Rattle.vocabulary.specs.Refusals.{in_line, plain}
use Rattle.retail.specs.Ledgers.{Ledger, load_answer, loaded, record_of}

-- the first where there is one, else the second
abbrev pub or_else : {A : Type 0} → Option A → Option A → Option A
or_else None y = y
or_else (Some x) y = Some x

-- n is the name of the next file after the last loaded one, or of a first file
abbrev pub TurnOf : Option Name → Name → Type 0
TurnOf None n = n.version ≡ 0
TurnOf (Some m) n = comes_next m n ≡ true

-- how many of the records are under a supply and an hour that the ledger has nothing of
abbrev pub new_ones : List Record → List Record → ℕ
new_ones [] held = 0
new_ones (r ∷ rs) held = cond (is_some (record_of r.supply r.hour held)) 0 1 + new_ones rs held

module _ (l : Ledger) (name bytes : List ℕ) where
  -- a file that holds records, under a name whose turn it is
  pub record NextFile (n : Name) (rs : List Record) : Type 0 where
    pub named : IsName n name
    pub turn : TurnOf l.last n
    pub file : Holds bytes rs

  pub record LoadAnswers : Type 0 where
    pub misnamed : ((n : Name) → IsName n name → ⊥) → load_answer l name bytes ≡ refused (plain 13)
    pub not_its_turn : (n : Name) → IsName n name → (TurnOf l.last n → ⊥) → load_answer l name bytes ≡ refused (plain 34)
    pub malformed_line : (n : Name) (line field : ℕ) → IsName n name → TurnOf l.last n → Malformed bytes line field → load_answer l name bytes ≡ refused (in_line 13 line (65 + field))
    pub line_out_of_turn : (n : Name) (line : ℕ) → IsName n name → TurnOf l.last n → OutOfTurn bytes line → load_answer l name bytes ≡ refused (in_line 14 line 45)
    pub too_few_places : (n : Name) (rs : List Record) → NextFile n rs → l.places < length l.records + new_ones rs l.records → load_answer l name bytes ≡ refused (plain 35)
    pub loads : (n : Name) (rs : List Record) → NextFile n rs → length l.records + new_ones rs l.records ≤ l.places → load_answer l name bytes ≡ granted

  -- each record of the file is then under its supply and hour, and under all others what was there
  abbrev pub EveryLine : Type 0
  EveryLine = (n : Name) (rs : List Record) → NextFile n rs → (supply : List ℕ) (hour : ℕ) →
      record_of supply hour (loaded l name bytes).records ≡ or_else (record_of supply hour rs) (record_of supply hour l.records)

abbrev pub LoadLaw : Type 0
LoadLaw = (l : Ledger) (name bytes : List ℕ) → LoadAnswers l name bytes × EveryLine l name bytes
