-- How the hours of a tariff period are closed, one after the other.
use Rattle.std.specs.Prelude.{◌≡◌, ℕ, ◌-◌, ◌*◌, ◌^◌, ◌<◌, ◌≤◌, Bool, true, false, cond, List, [], ◌∷◌, length, get_or, Some, None, Ok, Err, Option, Result, ◌==◌, slice_index, slice_index_or}
use Rattle.std.specs.Option.{unwrap_or}
use Rattle.vocabulary.specs.declared.energy.Wh.{Wh}
use Rattle.vocabulary.specs.declared.refusal.Refusal.{Refusal}
use Rattle.closing.specs.Billing.{source_number}
use Rattle.closing.specs.Closing.{Balance, bill, Billed, billed_wh, Case, closed_hour, count, energy_read, lies, missing_in, missing_method, period_at, read_in, read_wh, rule, was_read, weighed}
use Rattle.closing.specs.Closing as rules
use Rattle.closing.specs.Lent.{in_wh, Totals}
use Rattle.closing.specs.Sharing.{below}
use Rattle.closing.specs.Testing.{rule_of}
use Rattle.closing.specs.declared.balance.Source.{Source}
use Rattle.closing.specs.declared.period.ClosedHour.{ClosedHour}
use Rattle.vocabulary.specs.Methods.{method_number}
use Rattle.closing.specs.declared.period.PeriodShare.{PeriodShare}
use Rattle.closing.specs.declared.rule.Rule.{Rule}
use Rattle.closing.specs.declared.rule.Rule.TheVariants.{Keep, Rescale, Fill, CutDown}

-- energy and method
abbrev pub closed_of : ClosedHour → ℕ × ℕ
closed_of h = (h.energy.0, method_number h.method)

module _ (c : Case) (b : Billed) (p : ℕ) where
  -- the hours that share by a rule, by which weights, and what
  abbrev pub in_group : Rule → ℕ → Bool
  in_group Keep i = false
  in_group Rescale i = read_in c p i
  in_group Fill i = missing_in c p i
  in_group CutDown i = read_in c p i

  abbrev pub own_weight : Rule → ℕ → ℕ
  own_weight Keep i = 0
  own_weight Rescale i = energy_read c i
  own_weight Fill i = rules.weight c i
  own_weight CutDown i = energy_read c i

  abbrev pub to_share : Rule → ℕ
  to_share Keep = 0
  to_share Rescale = billed_wh c b p
  to_share Fill = billed_wh c b p - read_wh c p
  to_share CutDown = billed_wh c b p

  -- where the sharing stands once the places below i are closed
  pub record SharingAt (i : ℕ) (s : PeriodShare) : Type 0 where
    pub rule : rule_of s.rule ≡ rule c b p
    pub even : s.share.even ≡ (below (λ j. cond (in_group s.rule j) (own_weight s.rule j) 0) (count c) == 0)
    pub total : s.share.total ≡ to_share s.rule
    pub sum : s.share.sum ≡ below (weighed c (in_group s.rule) (own_weight s.rule)) (count c)
    pub past : s.share.past ≡ below (weighed c (in_group s.rule) (own_weight s.rule)) i
    pub missing : method_number s.missing ≡ missing_method c b b.source
    pub fits : s.share.total * s.share.sum < 2 ^ 64

  -- place i is to be closed: what was read there and what it weighs
  pub record Due (i : ℕ) (s : PeriodShare) (o : Option Wh) (w : ℕ) : Type 0 where
    pub state : SharingAt i s
    pub within : i < count c
    pub here : lies c p i ≡ true
    pub hour : get_or c.hours i None ≡ in_wh o
    pub weight : w ≡ cond (was_read c i) (energy_read c i) (rules.weight c i)

-- the same by the figures of the period
abbrev pub total_by : Rule → Totals → ℕ → ℕ
total_by Keep f billed = 0
total_by Rescale f billed = billed
total_by Fill f billed = billed - f.read
total_by CutDown f billed = billed

abbrev pub weights_by : Rule → Totals → ℕ
weights_by Keep f = 0
weights_by Rescale f = f.read
weights_by Fill f = f.weights
weights_by CutDown f = f.read

abbrev pub count_by : Rule → Totals → ℕ
count_by Keep f = 0
count_by Rescale f = f.hours - f.missing
count_by Fill f = f.missing
count_by CutDown f = f.hours - f.missing

abbrev pub method_by : ℕ → ℕ
method_by s = slice_index (2 ∷ 2 ∷ 2 ∷ 4 ∷ 5 ∷ 6 ∷ []) s

-- what an hour weighs, by the profile's weight and what was read
abbrev pub weight_by : Option ℕ → Option Wh → ℕ
weight_by w (Some e) = e.0
weight_by w None = unwrap_or w 0

-- of the first n places, those of a tariff period are closed; the others are as they were
pub record PeriodClosed (c : Case) (b : Billed) (p n : ℕ) (before after : List ClosedHour) : Type 0 where
  pub same_length : length after ≡ length before
  pub closed : (i : ℕ) (d : ClosedHour) → i < n → lies c p i ≡ true → closed_of (slice_index_or after i d) ≡ closed_hour c b i
  pub others : (i : ℕ) (d : ClosedHour) → lies c p i ≡ false → slice_index_or after i d ≡ slice_index_or before i d
  pub beyond : (i : ℕ) (d : ClosedHour) → n ≤ i → slice_index_or after i d ≡ slice_index_or before i d

-- of the first n places, those of the tariff periods up to m are closed; those beyond are as they were
pub record ClosedTo (c : Case) (b : Billed) (m n : ℕ) (before after : List ClosedHour) : Type 0 where
  pub same_length : length after ≡ length before
  pub closed : (i : ℕ) (d : ClosedHour) → i < n → period_at c i ≤ m → closed_of (slice_index_or after i d) ≡ closed_hour c b i
  pub beyond : (i : ℕ) (d : ClosedHour) → n ≤ i → slice_index_or after i d ≡ slice_index_or before i d

-- the curve stands in the first n places; those beyond are as they were
pub record Curve (c : Case) (b : Billed) (n : ℕ) (before after : List ClosedHour) : Type 0 where
  pub same_length : length after ≡ length before
  pub closed : (i : ℕ) (d : ClosedHour) → i < n → closed_of (slice_index_or after i d) ≡ closed_hour c b i
  pub beyond : (i : ℕ) (d : ClosedHour) → n ≤ i → slice_index_or after i d ≡ slice_index_or before i d

-- what a close leaves: the curve by what is billed, and on a refusal every place as it was
abbrev pub Closed : Case → (ℕ → Option Balance) → ℕ → List ClosedHour → List ClosedHour → Result Source Refusal → Type 0
Closed c balances n before after (Ok source) = (source_number source ≡ (bill c balances).source) × Curve c (bill c balances) n before after
Closed c balances n before after (Err refusal) = after ≡ before
