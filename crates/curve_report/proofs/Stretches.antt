-- Taking record after record of one supply.
use Rattle.std.proofs.Common.{◌≡◌, ℕ, ◌<◌, true, false, cond, ◌⊎◌, List, [], ◌∷◌, length, sym, refl, ap, ◌∙◌, subst, ⊎_elim, arith}
use Rattle.f5d.specs.Reading.{bad, good, read_line}
use Rattle.f5d.specs.Records.{can_bear, every_record, Lines, Record}
use Rattle.f5d.proofs.Going.{bad_not_good, good_one, line_shortens, next_line}
use Rattle.f5d.proofs.Turns.{lines_least, lines_long}
use Rattle.curve_report.specs.Report.{of_supply, turns_away}

module _ (rs : List Record) (bytes : List ℕ) (lines : Lines rs bytes) (bear : every_record can_bear rs ≡ true) where
  -- the record of the line that was read, and the others
  pub first_of : (q : Record) (more : List ℕ) → read_line bytes ≡ good q more → (others : List Record) × (rs ≡ q ∷ others) × Lines others more × (every_record can_bear others ≡ true)
  first_of q more e =
      let short = line_shortens bytes more q e in
      let next = next_line bytes rs lines bear (omega arith) in
      let is = good_one q next.next more next.more (sym e ∙ next.read) in
      (next.others, next.all ∙ ap (λ r. r ∷ next.others) (sym is.0), subst (Lines next.others) (sym is.1) next.lines, next.bear)

  some_bytes : 0 < length rs → 0 < length bytes
  some_bytes some = omega (arith, lines_long rs bytes bear lines, lines_least rs bear)

  -- there is no line, and so no record
  pub none_of : (f : ℕ) → read_line bytes ≡ bad f → rs ≡ []
  none_of f e = by rs refl
    where
      by : (xs : List Record) → rs ≡ xs → rs ≡ []
      by [] same = same
      by (x ∷ xs) same =
          let long = ap length same in
          let next = next_line bytes rs lines bear (some_bytes (omega arith)) in
          absurd (bad_not_good f next.next next.more (sym e ∙ next.read))

  -- the next record is not of the supply, or there is none
  pub away : (s : List ℕ) → ((f : ℕ) × (read_line bytes ≡ bad f)) ⊎ ((q : Record) × (more : List ℕ) × (read_line bytes ≡ good q more) × (of_supply s q ≡ false)) → turns_away s rs ≡ true
  away s =
      ⊎_elim
      (λ none. ap (turns_away s) (none_of none.0 none.1))
      (λ other. ap (turns_away s) (first_of other.0 other.1 other.2).1 ∙ ap (λ x. cond x false true) other.3)
