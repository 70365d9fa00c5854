use Rattle.std.proofs.Common.{◌≡◌, ◌+◌, [], ◌∷◌, ◌++◌, length, drop, refl, ap, sym, ◌∙◌, subst, arith}
use Rattle.std.proofs.lemmas.List.{length-drop, length_push, take_all}
use Rattle.std.proofs.lemmas.Result.{err_from_is_err_and}
use Rattle.f5d.specs.Meanings.{record_of}
use Rattle.f5d.specs.Passing.{malformed, Passed, RefusedFile}
use Rattle.f5d.specs.Records.{Lines, none}
use Rattle.f5d.proofs.Files.{file_reading, reached_malformed, reached_start}
use Rattle.f5d.proofs.Going.{passed_more}
use Rattle.f5d.proofs.Lines.{rest_shorter}
use Rattle.f5d.proofs.file.check_file.Goals as goal

pub returns-in_err-first : goal.returns-in_err-first
returns-in_err-first c =
    let bytes = c.args.bytes.now in
    let bad = c.in_err-first.ensures.read in
    let e = err_from_is_err_and c.from_residual.result c.from_residual.ensures.1 in
    rw (e.1, e.2) (record { cases = subst (RefusedFile bytes) (sym bad.2) (malformed 1 bad.0 (reached_malformed bytes [] bytes (reached_start bytes) bad.0 bad.1)); one_reading = file_reading })

pub loop-at-init : goal.loop-at-init
loop-at-init c =
    let bytes = c.args.bytes.now in
    let first = c.in_ok-first.first in
    let n = first.length in
    let q = record_of first.value in
    let here = c.in_ok-first.ensures.read in
    let less = rest_shorter bytes q (drop n bytes) here in
    let short = length-drop n bytes in
    let start : Passed bytes 0 [] = record { lines = none; bear = refl; turn = refl } in
    let same : 0 + n ≡ n = omega arith in (
      c.in_ok-first.ensures.within,
      omega arith,
      (
        q ∷ [],
        c.begin-turns.ensures q refl refl,
        subst (λ k. Passed bytes k (q ∷ [])) same (passed_more bytes 0 [] start (omega arith) q n here c.in_ok-first.ensures.within refl),
        refl,
      ),
    )

pub returns-in_err-at : goal.returns-in_err-at
returns-in_err-at c =
    let known = c.loop-at.invariant.2 in
    let p = err_from_is_err_and c.from_residual-in_err-at.result c.from_residual-in_err-at.ensures.1 in
    rw (p.1, p.2)
    (record { cases = c.in_err-at.ensures.read known.0 known.1 known.2 (omega (arith, known.3)); one_reading = file_reading })

pub loop-at-preserved : goal.loop-at-preserved
loop-at-preserved c =
    let known = c.loop-at.invariant.2 in
    let more = c.in_ok-at.ensures.read known.0 known.1 known.2 (omega (arith, known.3)) in
    let within = c.in_ok-at.ensures.within in (
      within.1,
      omega (arith, within.0, c.loop-at.invariant.1),
      (known.0 ++ more.0 ∷ [], more.1, more.2, omega (arith, known.3, length_push known.0 more.0)),
    )

pub returns : goal.returns
returns c =
    let bytes = c.args.bytes.now in
    let known = c.loop-at.invariant.2 in
    let some = ap length known.1.ends ∙ length_push known.1.front known.1.last in
    record {
      cases = (
        known.0,
        record { some = omega arith; bear = known.2.bear; turn = known.2.turn; lines = subst (Lines known.0) (take_all c.loop-at.at bytes c.loop-at-test.false) known.2.lines },
        known.3,
      );
      one_reading = file_reading;
    }
