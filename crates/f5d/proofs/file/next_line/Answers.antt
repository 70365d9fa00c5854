use Rattle.std.proofs.Common.{ℕ, ◌+◌, List, length, drop, sym, refl, ap, ◌∙◌, subst, arith}
use Rattle.std.proofs.lemmas.List.{length-drop}
use Rattle.vocabulary.specs.Refusals.{in_line}
use Rattle.f5d.specs.Meanings.{record_of}
use Rattle.f5d.specs.Passing.{malformed, out_of_turn, RefusedFile}
use Rattle.f5d.specs.Reading.{LineHere}
use Rattle.f5d.specs.Records.{FirstBad}
use Rattle.f5d.proofs.Files.{reached_breaks, reached_malformed}
use Rattle.f5d.proofs.Going.{passed_more, passed_reached}
use Rattle.f5d.proofs.Lines.{rest_shorter}
use Rattle.std.proofs.lemmas.Result.{err_from_is_err_and}
use Rattle.f5d.proofs.Stepping.{tail, tail_from}
use Rattle.f5d.proofs.file.next_line.Goals as goal

pub returns-in_err-next : goal.returns-in_err-next
returns-in_err-next c =
    let bytes = c.args.bytes.now in
    let at = c.args.at in
    let bad = c.in_err-next.ensures.read in
    let e = err_from_is_err_and c.from_residual.result c.from_residual.ensures.1 in
    rw (e.1, e.2)
    (record {
      read = λ done k p line.
          subst (RefusedFile bytes) (ap (λ n. in_line 13 n (65 + bad.0)) (sym line) ∙ sym bad.2)
          (malformed (length done + 1) bad.0 (reached_malformed bytes done (drop at bytes) (passed_reached bytes at done p c.requires) bad.0 (subst (FirstBad bad.0) (tail_from bytes at) bad.1)));
      within = tt;
    })

-- the line that was read, at its place
here : (bytes : List ℕ) (at n : ℕ) (r : _) → LineHere (tail bytes at) r (drop n (tail bytes at)) → LineHere (drop at bytes) r (drop n (drop at bytes))
here bytes at n r = subst (λ b. LineHere b r (drop n b)) (tail_from bytes at)

pub returns-then-not-allows : goal.returns-then-not-allows
returns-then-not-allows c =
    let bytes = c.args.bytes.now in
    let at = c.args.at in
    let next = c.in_ok-next.next in
    let q = record_of next.value in
    record {
      read = λ done k p line.
          subst (λ x. RefusedFile bytes (in_line 14 x 45)) (sym line)
          (out_of_turn (length done + 1)
          (reached_breaks bytes done (drop at bytes) (passed_reached bytes at done p c.requires) q (drop next.length (drop at bytes)) (here bytes at next.length q c.in_ok-next.ensures.read)
          (sym (c.allows.ensures done q k p.lines p.bear p.turn refl refl) ∙ c.if-not-allows.true)));
      within = tt;
    }

pub returns : goal.returns
returns c =
    let bytes = c.args.bytes.now in
    let at = c.args.at in
    let next = c.in_ok-next.next in
    let q = record_of next.value in
    let n = next.length in
    let line_here = here bytes at n q c.in_ok-next.ensures.read in
    let fits = ap length (tail_from bytes at) in
    let long = length-drop at bytes in
    let short = length-drop n (drop at bytes) in
    let less = rest_shorter (drop at bytes) q (drop n (drop at bytes)) line_here in
    record {
      read = λ done k p line. (
        q,
        c.pass.ensures done q k refl refl,
        passed_more bytes at done p c.requires q n line_here (omega (arith, c.in_ok-next.ensures.within))
            (sym (c.allows.ensures done q k p.lines p.bear p.turn refl refl) ∙ c.if-not-allows.false),
      );
      within = (omega (arith, c.in_ok-next.ensures.within), omega (arith, c.in_ok-next.ensures.within, c.requires));
    }
