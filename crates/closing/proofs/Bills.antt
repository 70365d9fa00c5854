-- What is billed, from the balances as they are held.
use Rattle.std.proofs.Common.{◌+◌, ◌-◌, ◌/◌, ◌<◌, sym, ◌∙◌, subst, arith, ℕ, List, get_or, Result, Ok, Err, ap, ◌≡◌, Bool, true, false, cond, not, is_some, Some, None, Option, unwrap_or, refl}
use Rattle.vocabulary.specs.Answers.{Answer, first_met, refused}
use Rattle.vocabulary.specs.Refusals.{notice}
use Rattle.vocabulary.specs.declared.refusal.Refusal.{Refusal}
use Rattle.std.specs.Result.{IsErrAnd}
use Rattle.closing.specs.Testing.{answer_of, bill_tests}
use Rattle.closing.specs.Billing.{ComesTo, balance_of, balances_of, Bills, SameBill, source_number}
use Rattle.closing.specs.declared.balance.Balance.{Balance}
use Rattle.closing.specs.declared.balance.Source.{Source}
use Rattle.closing.specs.declared.balance.Source.TheVariants.{Hours, Remote, Sight, Own, History, Factor}
use Rattle.std.specs.Option.{option_map, option_or}
use Rattle.std.specs.Bool.{then_some}
use Rattle.vocabulary.specs.declared.energy.KWh.{KWh}
use Rattle.closing.specs.declared.figures.BillingFigures.{BillingFigures}
use Rattle.closing.specs.declared.figures.Figures.{Figures}
use Rattle.closing.proofs.Stops.{figures_at, kwhs_at, none}
use Rattle.closing.specs.Closing as rules
use Rattle.closing.specs.declared.balance.Billed as program

-- ## The search for what is billed

abbrev by_source : Source → Option Balance → Option program.Billed
by_source s = option_map (λ b. record { source = s; balance = b })

-- the balances in the order in which they are billed, with the one that the hours come to
abbrev pub in_order : List (Option Balance) → Option Balance → Option program.Billed
in_order bs hours =
    option_or (option_or (option_or (option_or (option_or (by_source Remote (get_or bs 0 None)) (by_source Hours hours))
    (by_source Sight (get_or bs 1 None))) (by_source Own (get_or bs 2 None))) (by_source History (get_or bs 3 None))) (by_source Factor (get_or bs 4 None))

or_assoc : (x y z : Option program.Billed) → option_or (option_or x y) z ≡ option_or x (option_or y z)
or_assoc None y z = refl
or_assoc (Some b) y z = refl

module _ (c : rules.Case) where
  -- a held balance is billed before the rest
  held_first : (n : ℕ) (s : Source) (o : Option Balance) (r : Option rules.Billed) (g : Option program.Billed) → source_number s ≡ n → SameBill r g →
      SameBill (elim (option_map balance_of o) as (λ _. Option rules.Billed) [ None ↦ r | Some b ↦ Some (rules.held n b) ]) (option_or (by_source s o) g)
  held_first n s None r g e h = h
  held_first n s (Some b) r g e h = record { source = e; periods = refl; kwh = λ p x y. refl }

  held_last : (n : ℕ) (s : Source) (o : Option Balance) → source_number s ≡ n →
      SameBill (elim (option_map balance_of o) as (λ _. Option rules.Billed) [ None ↦ None | Some b ↦ Some (rules.held n b) ]) (by_source s o)
  held_last n s None e = tt
  held_last n s (Some b) e = record { source = e; periods = refl; kwh = λ p x y. refl }

  -- and so is what the hours come to, where none is missing
  hours_first : (m : Bool) (b : Balance) (r : Option rules.Billed) (g : Option program.Billed) → Bills (rules.from_hours c) (record { source = Hours; balance = b }) → SameBill r g →
      SameBill (cond m r (Some (rules.from_hours c))) (option_or (by_source Hours (then_some (not m) b)) g)
  hours_first true b r g hours h = h
  hours_first false b r g hours h = hours

  chosen : (bs : List (Option Balance)) (b : Balance) → Bills (rules.from_hours c) (record { source = Hours; balance = b }) →
      SameBill (rules.billed c (balances_of bs)) (in_order bs (then_some (not (rules.any_missing c)) b))
  chosen bs b hours =
      simp or_assoc
      (held_first 1 Remote (get_or bs 0 None) _ _ refl
      (hours_first (rules.any_missing c) b _ _ hours
      (held_first 2 Sight (get_or bs 1 None) _ _ refl
      (held_first 3 Own (get_or bs 2 None) _ _ refl
      (held_first 4 History (get_or bs 3 None) _ _ refl
      (held_last 5 Factor (get_or bs 4 None) refl))))))

  module _ (f : BillingFigures) (ks : List KWh) (same : ComesTo c f) (at : (i : ℕ) (d : Figures) (k : KWh) → i < 3 → (get_or ks i k).0 ≡ ((get_or f.by_period i d).read + 500) / 1000) where
    abbrev from_figures : Balance
    from_figures = record { periods = f.periods; kwh = ks }

    hours_bill : Bills (rules.from_hours c) (record { source = Hours; balance = from_figures })
    hours_bill =
        let zero : KWh = record { 0 = 0 } in
        record {
          source = refl;
          periods = sym same.periods;
          kwh = λ p from to.
              let i = p - 1 in
              let e : i + 1 ≡ p = omega arith in
              sym (kwhs_at ks i zero refl) ∙ at i none zero (omega arith) ∙ ap (λ x. (x.read + 500) / 1000) (figures_at c f.by_period same.by_period i (omega arith) none) ∙ ap (rules.computed c) e;
        }

    pub chosen_bill : (bs : List (Option Balance)) → SameBill (rules.billed c (balances_of bs)) (in_order bs (then_some (not f.any_missing) from_figures))
    chosen_bill bs = subst (λ m. SameBill (rules.billed c (balances_of bs)) (in_order bs (then_some (not m) from_figures))) same.missing (chosen bs from_figures hours_bill)

-- something is billed, and it is what the rules bill
pub some_bill : (o : Option rules.Billed) (r : Option program.Billed) (g : program.Billed) → r ≡ Some g → SameBill o r → (is_some o ≡ true) × Bills (unwrap_or o rules.nothing_billed) g
some_bill o r g e h = both o (subst (SameBill o) e h)
  where
    both : (o : Option rules.Billed) → SameBill o (Some g) → (is_some o ≡ true) × Bills (unwrap_or o rules.nothing_billed) g
    both None same = absurd same
    both (Some s) same = (refl, same)

-- where something is billed, the tests of what is billed are all that count
pub tested : (c : rules.Case) (balances : ℕ → Option rules.Balance) (a : Answer) → is_some (rules.billed c balances) ≡ true → a ≡ first_met (bill_tests c (rules.bill c balances)) →
    a ≡ first_met (rules.closing_tests c balances)
tested c balances a some e = rw some e

-- a refusal that is passed on
pub refusal_answers : {T : Type 0} (r : Result T Refusal) (e : Refusal) → IsErrAnd r (λ x. x ≡ e) → answer_of r ≡ refused (notice e)
refusal_answers (Ok v) e h = absurd h
refusal_answers (Err x) e h = ap (λ y. refused (notice y)) h
