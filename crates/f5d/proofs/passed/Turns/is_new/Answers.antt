use Rattle.std.proofs.Common.{sym, ap, ◌∙◌}
use Rattle.std.proofs.lemmas.Bool.{not-true}
use Rattle.std.specs.Ordering.{is_lt}
use Rattle.f5d.proofs.Knowing.{above_apart, less_lower, unmarked_apart}
use Rattle.f5d.proofs.passed.Turns.is_new.Goals.{then-is_lt, else-is_lt}
use Rattle.f5d.proofs.passed.Turns.is_new.Goals as goal

pub returns-then-not-has : goal.returns-then-not-has
returns-then-not-has c =
    λ done k lines bear.
    let high = c.args.self.now.highest.bytes in
    let code = c.args.supply.now.bytes in
    elim c.if-is_lt.branch [
      | then-is_lt w ↦ w.value-is ∙ w.if-is_lt.true ∙ sym (above_apart high code done (less_lower high code (sym (c.is_lt.ensures ∙ ap is_lt c.cmp.ensures) ∙ w.if-is_lt.true)) k.highest)
      | else-is_lt w ↦ c.if-not-has.true ∙ sym (unmarked_apart c.args.self.now.marks.seen code done (sym w.has.ensures ∙ not-true w.has.result (sym w.value-is ∙ c.if-not-has.true)) k.seen)
    ]
