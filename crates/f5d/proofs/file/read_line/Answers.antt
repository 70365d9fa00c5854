use Rattle.std.proofs.Common.{rules, ◌≡◌, ℕ, ◌+◌, List, drop, Ok, Err, Result, MatchResult, sym, ap, ◌∙◌, subst}
use Rattle.std.specs.Result.{IsErrAnd}
use Rattle.std.proofs.lemmas.Result.{err_from_is_err_and}
use Rattle.vocabulary.specs.Refusals.{in_line, notice}
use Rattle.vocabulary.specs.declared.refusal.Field.{Field}
use Rattle.vocabulary.specs.declared.refusal.Refusal.{Refusal}
use Rattle.vocabulary.specs.declared.refusal.Refusal.TheVariants.{MalformedLine}
use Rattle.f5d.specs.Meanings.{record_of}
use Rattle.f5d.specs.Reading.{LineHere, RightLine}
use Rattle.f5d.specs.Records.{FirstBad}
use Rattle.f5d.specs.Told.{line_told, place_of}
use Rattle.f5d.specs.declared.hours.HourRecord.{HourRecord}
use Rattle.f5d.specs.declared.line.Taken.{Taken}
use Rattle.f5d.proofs.Going.{letter_place}
use Rattle.f5d.proofs.file.read_line.Goals as goal

by : (bytes : List ℕ) (line : ℕ) (F : Field → Refusal → Type 0) (x : Result (Taken HourRecord) Field) (r : Result (Taken HourRecord) Refusal) → MatchResult x (λ l. r ≡ Ok l) (λ f. IsErrAnd r (F f)) → ((f : Field) (e : Refusal) → F f e → e ≡ MalformedLine line f) → RightLine bytes (line_told bytes x)
    → MatchResult r (λ l. LineHere bytes (record_of l.value) (drop l.length bytes)) (λ e. (f : ℕ) × FirstBad f bytes × (notice e ≡ in_line 13 line (65 + f)))
by bytes line F (Ok l) r h told right = subst (λ q. MatchResult q (λ l. LineHere bytes (record_of l.value) (drop l.length bytes)) (λ e. (f : ℕ) × FirstBad f bytes × (notice e ≡ in_line 13 line (65 + f)))) (sym h) right
by bytes line F (Err f) r h told right =
    let e = err_from_is_err_and r h in
    rw e.1 (place_of f, right, ap notice (told f e.0 e.2) ∙ ap (in_line 13 line) (sym (letter_place f)))

pub returns-clause-read : goal.returns-clause-read
returns-clause-read c = by c.args.bytes.now c.args.line _ c.read_line.result c.map_err.result c.map_err.ensures.cases (λ f e h. search rules) c.read_line.ensures.right
