-- Writing the closed hours of a tariff period into their places.
use Rattle.std.proofs.Common.{◌≡◌, ℕ, ◌+◌, ◌<◌, true, false, cond, List, length, get_or, set, is_some, Some, None, Option, unwrap_or, sym, refl, ap, ◌∙◌, subst, ⊎_elim, arith, length-set, get_or-set_other, get_or-set_same}
use Rattle.std.proofs.lemmas.Bool.{cases_eq, eq-eqb, ne_eqb, true≢false}
use Rattle.profile.specs.Weights.{Weights}
use Rattle.tariff.specs.Timetables.{Timetable}
use Rattle.vocabulary.specs.declared.energy.Wh.{Wh}
use Rattle.closing.specs.Cases.{case_in}
use Rattle.closing.specs.Closing.{Billed, Case, closed_hour, lies, period_at}
use Rattle.closing.specs.Lent.{in_wh}
use Rattle.closing.specs.Periods.{closed_of, Due, PeriodClosed, SharingAt, weight_by}
use Rattle.closing.specs.declared.billing_period.BillingPeriod.{BillingPeriod}
use Rattle.closing.specs.declared.period.ClosedHour.{ClosedHour}
use Rattle.closing.specs.declared.period.PeriodShare.{PeriodShare}
use Rattle.closing.proofs.Figuring.{energies_at, energies_length}
use Rattle.closing.proofs.Giving.{group_outside, stays}

weight_is_by : (w : Option ℕ) (o : Option Wh) → weight_by w o ≡ cond (is_some (in_wh o)) (unwrap_or (in_wh o) 0) (unwrap_or w 0)
weight_is_by w (Some e) = refl
weight_is_by w None = refl

module _ {C P : Type 0} (t : C → Timetable) (w : P → Weights) (s : BillingPeriod C P) (p : ℕ) (b : Billed) where
  abbrev c : Case
  c = case_in t w s

  pub due : (i q v : ℕ) (sh : PeriodShare) → SharingAt c b p i sh → i < length s.hours.now → q ≡ period_at c i → q ≡ p →
      v ≡ weight_by ((w s.profile.now).weight (s.first.number + i)) (get_or s.hours.now i None) → Due c b p i sh (get_or s.hours.now i None) v
  due i q v sh at l asked here ev =
      record {
        state = at;
        within = subst (λ n. i < n) (sym (energies_length s.hours.now)) l;
        here = eq-eqb (period_at c i) p (sym asked ∙ here);
        hour = energies_at s.hours.now i;
        weight = ev ∙ weight_is_by ((w s.profile.now).weight (s.first.number + i)) (get_or s.hours.now i None) ∙ ap (λ o. cond (is_some o) (unwrap_or o 0) (unwrap_or ((w s.profile.now).weight (s.first.number + i)) 0)) (sym (energies_at s.hours.now i));
      }

  pub written : (i : ℕ) (before ps : List ClosedHour) (h : ClosedHour) → PeriodClosed c b p i before ps → lies c p i ≡ true → closed_of h ≡ closed_hour c b i → i < length ps →
      PeriodClosed c b p (i + 1) before (set ps i h)
  written i before ps h done here right l =
      record {
        same_length = length-set ps i h ∙ done.same_length;
        closed = λ k d below lie.
            ⊎_elim (λ e. subst (λ x. closed_of (get_or (set ps i h) x d) ≡ closed_hour c b x) (sym e) (ap closed_of (get_or-set_same ps i h d l) ∙ right))
            (λ ne. ap closed_of (get_or-set_other ps i k h d ne) ∙ done.closed k d (omega arith) lie) (cases_eq k i);
        others = λ k d out. get_or-set_other ps i k h d (λ e. true≢false (sym (subst (λ x. lies c p x ≡ true) (sym e) here) ∙ out)) ∙ done.others k d out;
        beyond = λ k d past. get_or-set_other ps i k h d (λ e. omega arith) ∙ done.beyond k d (omega arith);
      }

  pub skipped : (i : ℕ) (before ps : List ClosedHour) → PeriodClosed c b p i before ps → lies c p i ≡ false → PeriodClosed c b p (i + 1) before ps
  skipped i before ps done out =
      record {
        same_length = done.same_length;
        closed = λ k d below lie. ⊎_elim (λ e. absurd (true≢false (sym lie ∙ subst (λ x. lies c p x ≡ false) (sym e) out))) (λ ne. done.closed k d (omega arith) lie) (cases_eq k i);
        others = done.others;
        beyond = λ k d past. done.beyond k d (omega arith);
      }

  -- the turn of a place that lies elsewhere
  pub turn_elsewhere : (i q : ℕ) (sh : PeriodShare) (before ps : List ClosedHour) → q ≡ period_at c i → (q ≡ p → ⊥) → SharingAt c b p i sh → PeriodClosed c b p i before ps →
      SharingAt c b p (i + 1) sh × PeriodClosed c b p (i + 1) before ps
  turn_elsewhere i q sh before ps asked away at done =
      let out = ne_eqb (period_at c i) p (λ e. away (asked ∙ e)) in
      (stays c b p i sh at (group_outside c b p sh.rule i out), skipped i before ps done out)
