-- The curve, tariff period after tariff period.
use Rattle.std.proofs.Common.{ℕ, ◌+◌, ◌≤◌, List, ap, ◌∙◌, ⊎_elim, arith}
use Rattle.std.proofs.lemmas.Bool.{cases_eq, eq-eqb, ne_eqb}
use Rattle.closing.specs.Closing.{Billed, Case, period_at}
use Rattle.closing.specs.Periods.{closed_of, ClosedTo, Curve, PeriodClosed}
use Rattle.closing.specs.declared.period.ClosedHour.{ClosedHour}

module _ (c : Case) (b : Billed) (n : ℕ) where
  pub period_more : (m : ℕ) (before ps after : List ClosedHour) → ClosedTo c b m n before ps → PeriodClosed c b (m + 1) n ps after → ClosedTo c b (m + 1) n before after
  period_more m before ps after done more =
      record {
        same_length = more.same_length ∙ done.same_length;
        closed = λ i d l z.
            ⊎_elim (λ e. more.closed i d l (eq-eqb (period_at c i) (m + 1) e))
            (λ ne. ap closed_of (more.others i d (ne_eqb (period_at c i) (m + 1) ne)) ∙ done.closed i d l (omega arith)) (cases_eq (period_at c i) (m + 1));
        beyond = λ i d l. more.beyond i d l ∙ done.beyond i d l;
      }

  pub all_closed : (m : ℕ) (before after : List ClosedHour) → c.calendar.periods ≤ m → ClosedTo c b m n before after → Curve c b n before after
  all_closed m before after whole done =
      record { same_length = done.same_length; closed = λ i d l. done.closed i d l (omega (arith, c.calendar.within (c.first + i))); beyond = done.beyond }
