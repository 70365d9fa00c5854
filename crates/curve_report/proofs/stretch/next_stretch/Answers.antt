use Rattle.std.proofs.Common.{◌≡◌, true, ◌&&◌, [], ◌∷◌, ◌++◌, map, length, vec_items, sym, refl, ap, ◌∙◌, subst, append_assoc, arith}
use Rattle.std.proofs.lemmas.List.{map_push}
use Rattle.std.proofs.lemmas.Bool.{and_from}
use Rattle.f5d.specs.Meanings.{record_of}
use Rattle.f5d.specs.Records.{every_record, Lines}
use Rattle.f5d.proofs.Going.{line_shortens}
use Rattle.f5d.proofs.Turns.{every_record-append, same_itself}
use Rattle.curve_report.specs.Report.{of_supply}
use Rattle.curve_report.proofs.Stretches.{away, first_of, none_of}
use Rattle.curve_report.proofs.stretch.next_stretch.Goals as goal

pub returns-in_default-clause-stretch : goal.returns-in_default-clause-stretch
returns-in_default-clause-stretch c = λ rs l b. none_of rs c.args.records.now.rest.now l b c.in_default.ensures.steps.0 c.in_default.ensures.steps.1

pub loop-next-smaller : goal.loop-next-smaller
loop-next-smaller c = line_shortens c.loop-next.records.rest.now c.take_next.new.records.rest.now (record_of c.in-Some-take_next.next) c.in-Some-take_next.ensures.taken.0

pub loop-next-preserved : goal.loop-next-preserved
loop-next-preserved c =
    let inv = c.loop-next.invariant in
    let q = record_of c.in-Some-take_next.next in
    let s = c.in-Some.first.at.supply.bytes in
    let read = c.in-Some-take_next.ensures.taken in
    let shorter = line_shortens c.loop-next.records.rest.now c.take_next.new.records.rest.now q read.0 in (
      inv.0 ++ q ∷ [],
      ap (map record_of) c.in_ok-push.ensures.items ∙ map_push record_of (vec_items c.loop-next.stretch) c.in-Some-take_next.next ∙ ap (λ x. x ++ q ∷ []) inv.1
          ∙ append_assoc (map record_of (vec_items c.in_ok-stretch.stretch)) inv.0 (q ∷ []),
      every_record-append (of_supply s) inv.0 (q ∷ []) ∙ and_from (every_record (of_supply s) inv.0) (of_supply s q && true) inv.2 (and_from (of_supply s q) true read.1 refl),
      λ rs l b.
          let known = inv.3 rs l b in
          let next = first_of known.0 c.loop-next.records.rest.now known.2 known.3 q c.take_next.new.records.rest.now read.0 in
          (next.0, known.1 ∙ ap (λ x. inv.0 ++ x) next.1 ∙ sym (append_assoc inv.0 (q ∷ []) next.0), next.2, next.3),
      omega (arith, inv.4),
    )

pub returns : goal.returns
returns c =
    let inv = c.loop-next.invariant in
    let q = record_of c.in-Some.first in
    let s = q.supply in
    let here = c.loop-next.records.rest.now in
    let left = c.in_default-take_next.ensures.left in
    let one : map record_of (vec_items c.in_ok-stretch.stretch) ≡ q ∷ [] = ap (map record_of) c.in_ok-stretch.ensures.items in
    let all : map record_of (vec_items c.loop-next.stretch) ≡ q ∷ inv.0 = inv.1 ∙ ap (λ x. x ++ inv.0) one in
    let short = line_shortens c.args.records.now.rest.now c.next.new.self.rest.now q c.in-Some.ensures.steps in
    record {
      stretch = λ rs l b.
          let first = first_of rs c.args.records.now.rest.now l b q c.next.new.self.rest.now c.in-Some.ensures.steps in
          let known = inv.3 first.0 first.2 first.3 in (
            known.0,
            record {
              first = q;
              more = inv.0;
              some = all;
              all = first.1 ∙ ap (λ x. q ∷ x) known.1 ∙ ap (λ x. x ++ known.0) (sym all);
              one = ap (every_record (of_supply s)) all ∙ and_from (of_supply s q) (every_record (of_supply s) inv.0) (same_itself s) inv.2;
              ends = away known.0 here known.2 known.3 s c.in_default-take_next.ensures.taken;
            },
            subst (Lines known.0) (sym left) known.2,
            known.3,
          );
      shorter = omega (arith, inv.4, ap length left);
    }
