-- Going through lines that are known to be there.
use Rattle.std.proofs.Common.{◌≡◌, ℕ, zero, suc, ◌+◌, ◌<◌, ◌≤◌, true, false, not, ◌&&◌, eqb, ltb, List, [], ◌∷◌, ◌++◌, length, take, drop, sym, refl, ap, ◌∙◌, subst, arith}
use Rattle.std.proofs.lemmas.List.{length-append, length-drop, take-append-drop, take_at}
use Rattle.std.proofs.lemmas.Bool.{and_from, and_parts, lt-ltb, or_right}
use Rattle.vocabulary.specs.Refusals.{letter}
use Rattle.vocabulary.specs.declared.refusal.Field.{Field}
use Rattle.vocabulary.specs.declared.refusal.Field.TheVariants.{Supply, Label, Season, ActiveIn, ActiveOut, Reactive1, Reactive2, Reactive3, Reactive4, Method, Firmness, Invoice}
use Rattle.f5d.specs.Passing.{Passed}
use Rattle.f5d.specs.Reading.{bad, good, LineHere, LineRead, read_line, RightLine}
use Rattle.f5d.specs.Records.{apart, can_bear, every_record, in_turn, Lines, Record, same}
use Rattle.f5d.specs.Told.{place_of}
use Rattle.f5d.proofs.Files.{Reached}
use Rattle.f5d.proofs.Lines.{line_reading, read_back, rest_shorter}
use Rattle.f5d.proofs.Turns.{every_record-append, first_line, lines_least, lines_long, lines_push, no_lines}

pub good_one : (r q : Record) (x y : List ℕ) → good r x ≡ good q y → (r ≡ q) × (x ≡ y)
good_one r q x y e = (ap (λ v. elim v [ bad n ↦ r | good a b ↦ a ]) e, ap (λ v. elim v [ bad n ↦ x | good a b ↦ b ]) e)

Bad : LineRead → Type 0
Bad (bad n) = Unit {0}
Bad (good r x) = ⊥

pub bad_not_good : (n : ℕ) (r : Record) (x : List ℕ) → bad n ≡ good r x → ⊥
unfolding Bad
bad_not_good n r x e = subst Bad e tt

-- the bytes begin with the line of the first record, and the lines of the others follow
pub record NextLine (bytes : List ℕ) (rs : List Record) : Type 0 where
  pub next : Record
  pub others : List Record
  pub all : rs ≡ next ∷ others
  pub more : List ℕ
  pub read : read_line bytes ≡ good next more
  pub lines : Lines others more
  pub bear : every_record can_bear others ≡ true

pub next_line : (bytes : List ℕ) (rs : List Record) → Lines rs bytes → every_record can_bear rs ≡ true → 0 < length bytes → NextLine bytes rs
next_line bytes [] l b some = absurd (let e = ap length (no_lines l) in omega arith)
next_line bytes (r ∷ rs) l b some =
    let first = first_line l in
    let both = and_parts (can_bear r) (every_record can_bear rs) b in
    record {
      next = r;
      others = rs;
      all = refl;
      more = first.more;
      read = ap read_line first.split ∙ read_back r first.line first.more both.0 first.is_line;
      lines = first.lines;
      bear = both.1;
    }

-- a line has bytes
pub line_shortens : (bytes rest : List ℕ) (r : Record) → read_line bytes ≡ good r rest → length rest < length bytes
line_shortens bytes rest r e = let s = rest_shorter bytes r rest (subst (RightLine bytes) e (line_reading.right bytes)) in omega arith

-- Going through all records in search of a supply: those that are left decide.
abbrev pub Left : List ℕ → List ℕ → List ℕ → Type 0
Left s bytes rest =
    (done : List Record) → Lines done bytes → every_record can_bear done ≡ true →
    (others : List Record) × Lines others rest × (every_record can_bear others ≡ true) × (apart s done ≡ apart s others)

module _ (s bytes rest : List ℕ) (left : Left s bytes rest) where
  module _ (q : Record) (more : List ℕ) (e : read_line rest ≡ good q more) where
    next_left : (done : List Record) (l : Lines done bytes) (b : every_record can_bear done ≡ true) → NextLine rest (left done l b).0
    next_left done l b =
        let others = left done l b in
        let less = line_shortens rest more q e in
        next_line rest others.0 others.1 others.2 (omega arith)

    -- the next is of the supply
    pub left_found : same s q.supply ≡ true → (done : List Record) → Lines done bytes → every_record can_bear done ≡ true → false ≡ apart s done
    left_found here done l b =
        let others = left done l b in
        let next = next_left done l b in
        let is = good_one q next.next more next.more (sym e ∙ next.read) in
        sym (others.3 ∙ ap (apart s) next.all ∙ ap (λ x. not x && apart s next.others) (ap (λ r. same s r.supply) (sym is.0) ∙ here))

    -- it is not, and the others decide
    pub left_more : same s q.supply ≡ false → Left s bytes more
    left_more differs done l b =
        let others = left done l b in
        let next = next_left done l b in
        let is = good_one q next.next more next.more (sym e ∙ next.read) in (
          next.others,
          subst (Lines next.others) (sym is.1) next.lines,
          next.bear,
          others.3 ∙ ap (apart s) next.all ∙ ap (λ x. not x && apart s next.others) (ap (λ r. same s r.supply) (sym is.0) ∙ differs),
        )

  -- there is no next one
  pub left_none : (n : ℕ) → read_line rest ≡ bad n → (done : List Record) → Lines done bytes → every_record can_bear done ≡ true → true ≡ apart s done
  left_none n e done l b = by (left done l b)
    where
      by : (others : List Record) × Lines others rest × (every_record can_bear others ≡ true) × (apart s done ≡ apart s others) → true ≡ apart s done
      by ([], lines, bear, is) = sym is
      by (r ∷ rs, lines, bear, is) =
          let some = lines_least (r ∷ rs) bear in
          let long = lines_long (r ∷ rs) rest bear lines in
          let next = next_line rest (r ∷ rs) lines bear (omega arith) in
          absurd (bad_not_good n next.next next.more (sym e ∙ next.read))

take_none : (k : ℕ) → take {A = ℕ} k [] ≡ []
take_none zero = refl
take_none (suc k) = refl

pub take-add : (i n : ℕ) (xs : List ℕ) → take (i + n) xs ≡ take i xs ++ take n (drop i xs)
take-add zero n xs = let none : 0 + n ≡ n = omega arith in ap (λ k. take k xs) none
take-add (suc i) n [] = take_none (suc i + n) ∙ sym (take_none n)
take-add (suc i) n (x ∷ xs) = let next : suc i + n ≡ suc (i + n) = omega arith in ap (λ k. take k (x ∷ xs)) next ∙ ap (λ l. x ∷ l) (take-add i n xs)

-- a field by its letter
pub letter_place : (f : Field) → 65 + place_of f ≡ letter f
letter_place Supply = refl
letter_place Label = refl
letter_place Season = refl
letter_place ActiveIn = refl
letter_place ActiveOut = refl
letter_place Reactive1 = refl
letter_place Reactive2 = refl
letter_place Reactive3 = refl
letter_place Reactive4 = refl
letter_place Method = refl
letter_place Firmness = refl
letter_place Invoice = refl

-- From line to line of a file.
module _ (bytes : List ℕ) (at : ℕ) (done : List Record) (p : Passed bytes at done) (within : at < length bytes) where
  pub passed_reached : Reached bytes done (drop at bytes)
  passed_reached =
      let long = length-drop at bytes in
      record {
        front = take at bytes;
        split = sym (take-append-drop at bytes);
        lines = p.lines;
        bear = p.bear;
        turn = p.turn;
        more = or_right (eqb (length done) 0) (ltb 0 (length (drop at bytes))) (lt-ltb 0 (length (drop at bytes)) (omega arith));
      }

  -- the next line is well formed and in turn
  pub passed_more : (q : Record) (n : ℕ) → LineHere (drop at bytes) q (drop n (drop at bytes)) → n ≤ length (drop at bytes) → in_turn (done ++ q ∷ []) ≡ true → Passed bytes (at + n) (done ++ q ∷ [])
  passed_more q n h fits turn = record {
    lines = subst (Lines (done ++ q ∷ [])) (sym grown) (lines_push p.lines h.is_line);
    bear = every_record-append can_bear done (q ∷ []) ∙ and_from (every_record can_bear done) (can_bear q && true) p.bear (and_from (can_bear q) true h.bears refl);
    turn = turn;
  }
    where
      -- the line is the next n bytes
      whole : h.line ≡ take n (drop at bytes)
      whole =
          let long = ap length h.split ∙ length-append h.line (drop n (drop at bytes)) in
          let short = length-drop n (drop at bytes) in
          sym (ap (take n) h.split ∙ take_at h.line (drop n (drop at bytes)) n (omega arith))

      grown : take (at + n) bytes ≡ take at bytes ++ h.line
      grown = take-add at n bytes ∙ ap (λ l. take at bytes ++ l) (sym whole)
