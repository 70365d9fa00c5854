-- A file is read rightly, and in one way only.
use Rattle.std.proofs.Common.{◌≡◌, ℕ, zero, suc, ◌+◌, ◌-◌, ◌<◌, ◌≤◌, true, false, cond, ◌&&◌, ◌||◌, eqb, ltb, List, [], ◌∷◌, ◌++◌, length, sym, refl, ap, ◌∙◌, subst, ⊎_elim, arith}
use Rattle.std.proofs.lemmas.List.{append_assoc, append-nil, length-append, length_push, nil_from_length}
use Rattle.std.proofs.lemmas.Bool.{and_from, and_parts, cond_both, cond-false, cond-true, eq-eqb, eqb-false, eqb-true, lt-ltb, ltb-true, ne_eqb, or_cases, or_right}
use Rattle.f5d.specs.Records.{can_bear, every_record, FirstBad, Holds, in_turn, Lines, Malformed, none, OutOfTurn, Record}
use Rattle.f5d.specs.Reading.{bad, FileReading, FileRead, good, holds, LineHere, LineRead, malformed, out_of_turn, read_file, read_line, read_lines, RightFile, RightLine}
use Rattle.f5d.proofs.Lines.{line_least, line_long, line_reading, read_back, rest_shorter}
use Rattle.f5d.proofs.Turns.{every_record-append, first_line, in_turn_front, lines_least, lines_long, lines_parted, lines_push, no_lines}

-- ## From line to line

-- the bytes so far are the lines of the records `done`, in turn; more bytes follow, or there was no line yet
pub record Reached (all : List ℕ) (done : List Record) (bytes : List ℕ) : Type 0 where
  pub front : List ℕ
  pub split : all ≡ front ++ bytes
  pub lines : Lines done front
  pub bear : every_record can_bear done ≡ true
  pub turn : in_turn done ≡ true
  pub more : (eqb (length done) 0 || ltb 0 (length bytes)) ≡ true

pub reached_start : (bytes : List ℕ) → Reached bytes [] bytes
reached_start bytes = record { front = []; split = refl; lines = none; bear = refl; turn = refl; more = refl }

module _ (all : List ℕ) (done : List Record) (bytes : List ℕ) (s : Reached all done bytes) where
  pub reached_malformed : (n : ℕ) → FirstBad n bytes → Malformed all (length done + 1) n
  reached_malformed n h = record {
    good = done;
    front = s.front;
    rest = bytes;
    split = s.split;
    lines = s.lines;
    bear = s.bear;
    turn = s.turn;
    line = refl;
    more = s.more;
    bad = h;
  }

  -- the next line is well formed
  module _ (r : Record) (rest : List ℕ) (h : LineHere bytes r rest) where
    next_split : all ≡ (s.front ++ h.line) ++ rest
    next_split = s.split ∙ ap (λ t. s.front ++ t) h.split ∙ sym (append_assoc s.front h.line rest)

    next_bear : every_record can_bear (done ++ r ∷ []) ≡ true
    next_bear = every_record-append can_bear done (r ∷ []) ∙ and_from _ _ s.bear (and_from (can_bear r) true h.bears refl)

    pub reached_breaks : in_turn (done ++ r ∷ []) ≡ false → OutOfTurn all (length done + 1)
    reached_breaks breaks = record {
      good = done;
      next = r;
      front = s.front ++ h.line;
      rest = rest;
      split = next_split;
      lines = lines_push s.lines h.is_line;
      bear = next_bear;
      turn = s.turn;
      breaks = breaks;
      line = refl;
    }

    pub reached_end : in_turn (done ++ r ∷ []) ≡ true → length rest ≡ 0 → Holds all (done ++ r ∷ [])
    reached_end turn end =
        let whole : all ≡ s.front ++ h.line = next_split ∙ ap (λ t. (s.front ++ h.line) ++ t) (nil_from_length rest end) ∙ append-nil (s.front ++ h.line) in
        record { some = omega (arith, length_push done r); bear = next_bear; turn = turn; lines = subst (Lines (done ++ r ∷ [])) (sym whole) (lines_push s.lines h.is_line) }

    pub reached_more : in_turn (done ++ r ∷ []) ≡ true → 0 < length rest → Reached all (done ++ r ∷ []) rest
    reached_more turn some = record {
      front = s.front ++ h.line;
      split = next_split;
      lines = lines_push s.lines h.is_line;
      bear = next_bear;
      turn = turn;
      more = or_right _ _ (lt-ltb 0 (length rest) some);
    }

-- ## What is read is right

-- what comes of the next line
abbrev pub after_line : ℕ → List Record → LineRead → FileRead
after_line n done (bad f) = malformed (length done + 1) f
after_line n done (good r rest) =
    cond (in_turn (done ++ r ∷ []))
    (cond (eqb (length rest) 0) (holds (done ++ r ∷ [])) (read_lines n (done ++ r ∷ []) rest))
    (out_of_turn (length done + 1))

line_right : (all : List ℕ) (n : ℕ) (done : List Record) (bytes : List ℕ) → Reached all done bytes → length bytes ≤ n → ((next : List Record) (rest : List ℕ) → Reached all next rest → length rest < n → RightFile all (read_lines n next rest)) → (x : LineRead) → RightLine bytes x → RightFile all (after_line n done x)
line_right all n done bytes s fuel go (bad f) h = reached_malformed all done bytes s f h
line_right all n done bytes s fuel go (good r rest) h =
    let next = done ++ r ∷ [] in
    let less = rest_shorter bytes r rest h in
    cond_both (in_turn next) (cond (eqb (length rest) 0) (holds next) (read_lines n next rest)) (out_of_turn (length done + 1)) (RightFile all)
    (λ turn. cond_both (eqb (length rest) 0) (holds next) (read_lines n next rest) (RightFile all)
    (λ end. reached_end all done bytes s r rest h turn (eqb-true (length rest) 0 end))
    (λ more. let some = eqb-false (length rest) 0 more in go next rest (reached_more all done bytes s r rest h turn (omega arith)) (omega arith)))
    (λ breaks. reached_breaks all done bytes s r rest h breaks)

lines_right : (all : List ℕ) (n : ℕ) (done : List Record) (bytes : List ℕ) → Reached all done bytes → length bytes < n → RightFile all (read_lines n done bytes)
lines_right all zero done bytes s fuel = absurd (omega arith)
lines_right all (suc n) done bytes s fuel = line_right all n done bytes s (omega arith) (λ next rest t l. lines_right all n next rest t l) (read_line bytes) (line_reading.right bytes)

pub file_right : (bytes : List ℕ) → RightFile bytes (read_file bytes)
unfolding read_file
file_right bytes = lines_right bytes (suc (length bytes)) [] bytes (reached_start bytes) (omega arith)

-- ## What is right is read

-- reading passes over lines in turn
read_along : (n m : ℕ) (done next : List Record) (front rest : List ℕ) → n ≡ length next + m → every_record can_bear next ≡ true → in_turn (done ++ next) ≡ true → Lines next front → (0 < length next → 0 < length rest) → read_lines n done (front ++ rest) ≡ read_lines m (done ++ next) rest
read_along n m done [] front rest e b t ls some = let same : n ≡ m = omega arith in λ i. read_lines (same i) (sym (append-nil done) i) (no_lines ls i ++ rest)
read_along zero m done (r ∷ next) front rest e b t ls some = absurd (omega arith)
read_along (suc n) m done (r ∷ next) front rest e b t ls some =
    let p = and_parts (can_bear r) (every_record can_bear next) b in
    let f = first_line ls in
    let pushed : (done ++ r ∷ []) ++ next ≡ done ++ r ∷ next = append_assoc done (r ∷ []) next in
    let turn = sym (ap in_turn (sym pushed)) ∙ t in
    let bytes = ap (λ l. l ++ rest) f.split ∙ append_assoc f.line f.more rest in
    let more : 0 < length rest = some (omega arith) in
    let long = length-append f.more rest in
    ap (λ b. after_line n done (read_line b)) bytes
    ∙ ap (after_line n done) (read_back r f.line (f.more ++ rest) p.0 f.is_line)
    ∙ cond-true _ _ _ (in_turn_front (done ++ r ∷ []) next turn)
    ∙ cond-false _ _ _ (ne_eqb (length (f.more ++ rest)) 0 (λ z. omega arith))
    ∙ read_along n m (done ++ r ∷ []) next f.more rest (omega arith) p.1 turn f.lines (λ _. more)
    ∙ ap (λ l. read_lines m l rest) pushed

-- to the end of the bytes
read_out : (n : ℕ) (done rs : List Record) (bytes : List ℕ) → length rs ≤ n → 0 < length rs → every_record can_bear rs ≡ true → in_turn (done ++ rs) ≡ true → Lines rs bytes → read_lines n done bytes ≡ holds (done ++ rs)
read_out n done [] bytes l some b t ls = absurd (omega arith)
read_out zero done (r ∷ rs) bytes l some b t ls = absurd (omega arith)
read_out (suc n) done (r ∷ []) bytes l some b t ls =
    let p = and_parts (can_bear r) true b in
    let f = first_line ls in
    ap (λ c. after_line n done (read_line c)) f.split
    ∙ ap (after_line n done) (read_back r f.line f.more p.0 f.is_line)
    ∙ cond-true _ _ _ t
    ∙ cond-true _ _ _ (eq-eqb (length f.more) 0 (ap length (no_lines f.lines)))
read_out (suc n) done (r ∷ q ∷ rs) bytes l some b t ls =
    let p = and_parts (can_bear r) (every_record can_bear (q ∷ rs)) b in
    let f = first_line ls in
    let pushed : (done ++ r ∷ []) ++ q ∷ rs ≡ done ++ r ∷ q ∷ rs = append_assoc done (r ∷ []) (q ∷ rs) in
    let turn = sym (ap in_turn (sym pushed)) ∙ t in
    let long = lines_long (q ∷ rs) f.more p.1 f.lines in
    let least = lines_least (q ∷ rs) p.1 in
    ap (λ c. after_line n done (read_line c)) f.split
    ∙ ap (after_line n done) (read_back r f.line f.more p.0 f.is_line)
    ∙ cond-true _ _ _ (in_turn_front (done ++ r ∷ []) (q ∷ rs) turn)
    ∙ cond-false _ _ _ (ne_eqb (length f.more) 0 (λ z. omega arith))
    ∙ read_out n (done ++ r ∷ []) (q ∷ rs) f.more (omega arith) (omega arith) p.1 turn f.lines
    ∙ ap holds pushed

-- a record for each line, so that there are turns enough
few_lines : (rs : List Record) (front rest : List ℕ) → every_record can_bear rs ≡ true → Lines rs front → length rs ≤ length (front ++ rest)
few_lines rs front rest b ls =
    let long = lines_long rs front b ls in
    let least = lines_least rs b in
    let both = length-append front rest in
    omega arith

pub holds_read : (bytes : List ℕ) (rs : List Record) → Holds bytes rs → read_file bytes ≡ holds rs
unfolding read_file
holds_read bytes rs h =
    let few = few_lines rs bytes [] h.bear h.lines in
    let all = ap length (append-nil bytes) in
    read_out (suc (length bytes)) [] rs bytes (omega arith) h.some h.bear h.turn h.lines

pub malformed_read : (bytes : List ℕ) (k n : ℕ) → Malformed bytes k n → read_file bytes ≡ malformed k n
unfolding read_file
malformed_read bytes k n h =
    let few = few_lines h.good h.front h.rest h.bear h.lines in
    let all = ap length h.split in
    let m = length bytes - length h.good in
    ap (read_lines (suc (length bytes)) []) h.split
    ∙ read_along (suc (length bytes)) (suc m) [] h.good h.front h.rest (omega arith) h.bear h.turn h.lines more
    ∙ ap (after_line m h.good) (sym (line_reading.only h.rest (bad n) h.bad))
    ∙ ap (λ j. malformed j n) (sym h.line)
  where
    more : 0 < length h.good → 0 < length h.rest
    more some = ⊎_elim (λ z. absurd (let e = eqb-true (length h.good) 0 z in omega arith)) (λ l. ltb-true 0 (length h.rest) l) (or_cases (eqb (length h.good) 0) (ltb 0 (length h.rest)) h.more)

pub out_of_turn_read : (bytes : List ℕ) (k : ℕ) → OutOfTurn bytes k → read_file bytes ≡ out_of_turn k
unfolding read_file
out_of_turn_read bytes k h =
    let p = lines_parted h.good (h.next ∷ []) h.front h.lines in
    let b = and_parts (every_record can_bear h.good) (can_bear h.next && true) (sym (every_record-append can_bear h.good (h.next ∷ [])) ∙ h.bear) in
    let own = (and_parts (can_bear h.next) true b.1).0 in
    let f = first_line p.behind in
    let whole : bytes ≡ p.front ++ (f.line ++ (f.more ++ h.rest)) =
    h.split
    ∙ ap (λ t. t ++ h.rest) (p.split ∙ ap (λ t. p.front ++ t) f.split)
    ∙ append_assoc p.front (f.line ++ f.more) h.rest
    ∙ ap (λ t. p.front ++ t) (append_assoc f.line f.more h.rest) in
    let rest = f.more ++ h.rest in
    let few = few_lines h.good p.front (f.line ++ rest) b.0 p.before in
    let all = ap length whole in
    let long = line_long h.next f.line own f.is_line in
    let least = line_least h.next own in
    let both = length-append f.line rest in
    let m = length bytes - length h.good in
    ap (read_lines (suc (length bytes)) []) whole
    ∙ read_along (suc (length bytes)) (suc m) [] h.good p.front (f.line ++ rest) (omega arith) b.0 h.turn p.before (λ _. omega arith)
    ∙ ap (after_line m h.good) (read_back h.next f.line rest own f.is_line)
    ∙ cond-false _ _ _ h.breaks
    ∙ ap out_of_turn (sym h.line)

pub file_only : (bytes : List ℕ) (x : FileRead) → RightFile bytes x → x ≡ read_file bytes
file_only bytes (malformed k n) h = sym (malformed_read bytes k n h)
file_only bytes (out_of_turn k) h = sym (out_of_turn_read bytes k h)
file_only bytes (holds rs) h = sym (holds_read bytes rs h)

pub file_reading : FileReading
file_reading = record { right = file_right; only = file_only }
