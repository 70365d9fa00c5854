-- Balances and what is billed, as the program holds them, in the words of the closing rules.
use Rattle.std.specs.Prelude.{◌≡◌, ℕ, ◌-◌, ◌≤◌, List, [], ◌∷◌, Some, None, Option, slice_index, slice_index_or}
use Rattle.std.specs.Option.{option_map}
use Rattle.vocabulary.specs.declared.energy.KWh.{KWh}
use Rattle.closing.specs.Closing as rules
use Rattle.closing.specs.Lent.{figures_of, totals}
use Rattle.closing.specs.declared.balance.Balance.{Balance}
use Rattle.closing.specs.declared.balance.Billed.{Billed}
use Rattle.closing.specs.declared.balance.Source.{Source}
use Rattle.closing.specs.declared.balance.Source.TheVariants.{Hours, Remote, Sight, Own, History, Factor}
use Rattle.closing.specs.declared.figures.BillingFigures.{BillingFigures}
use Rattle.closing.specs.declared.figures.Figures.{Figures}

abbrev pub source_number : Source → ℕ
source_number Hours = 0
source_number Remote = 1
source_number Sight = 2
source_number Own = 3
source_number History = 4
source_number Factor = 5

abbrev pub kwhs : List KWh → List ℕ
kwhs [] = []
kwhs (k ∷ ks) = k.0 ∷ kwhs ks

abbrev pub balance_of : Balance → rules.Balance
balance_of b = record { periods = b.periods; kwh = kwhs b.kwh }

-- the balances by their sources, from 1 on
abbrev pub balances_of : List (Option Balance) → ℕ → Option rules.Balance
balances_of bs s = option_map balance_of (slice_index_or bs (s - 1) None)

-- the same is billed: source, count of periods, and the kWh of each of the three periods that there can be
pub record Bills (s : rules.Billed) (b : Billed) : Type 0 where
  pub source : source_number b.source ≡ s.source
  pub periods : b.balance.periods ≡ s.periods
  pub kwh : (p : ℕ) → 1 ≤ p → p ≤ 3 → slice_index (kwhs b.balance.kwh) (p - 1) ≡ s.kwh p

abbrev pub SameBill : Option rules.Billed → Option Billed → Type 0
SameBill None None = Unit {0}
SameBill None (Some b) = ⊥
SameBill (Some s) None = ⊥
SameBill (Some s) (Some b) = Bills s b

-- the figures of all tariff periods, from period 1 on
pub record AllFigures (c : rules.Case) (fs : List Figures) : Type 0 where
  pub at_1 : (d : Figures) → totals (slice_index_or fs 0 d) ≡ figures_of c 1
  pub at_2 : (d : Figures) → totals (slice_index_or fs 1 d) ≡ figures_of c 2
  pub at_3 : (d : Figures) → totals (slice_index_or fs 2 d) ≡ figures_of c 3

-- the figures of a billing period
pub record ComesTo (c : rules.Case) (f : BillingFigures) : Type 0 where
  pub periods : c.calendar.periods ≡ f.periods
  pub missing : rules.any_missing c ≡ f.any_missing
  pub by_period : AllFigures c f.by_period
