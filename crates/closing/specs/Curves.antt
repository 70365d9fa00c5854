-- What is promised of the curve of a close, in words of its own: nothing here is taken from the closing rules.
use Rattle.std.specs.Prelude.{◌≡◌, ℕ, ◌+◌, ◌-◌, ◌*◌, ◌<◌, ◌≤◌, true, false, cond, ◌⊎◌, length, is_some, None, Option, ◌==◌, slice_index_or}
use Rattle.std.specs.Option.{unwrap_or}
use Rattle.vocabulary.specs.Answers.{first_met, is_granted}
use Rattle.closing.specs.Closing.{Balance, Billed, bill, Case, closed_hour, closing_tests}
use Rattle.closing.specs.Sharing.{below}

-- the hours of a case, by their places from 0 on, and the balance that is billed
module _ (c : Case) (b : Billed) where
  abbrev pub hour_count : ℕ
  hour_count = length c.hours

  abbrev pub read_at : ℕ → Option ℕ
  read_at i = slice_index_or c.hours i None

  abbrev pub tariff_period : ℕ → ℕ
  tariff_period i = c.calendar.period (c.first + i)

  -- the sum of f over the hours of a tariff period
  abbrev pub total : (ℕ → ℕ) → ℕ → ℕ
  total f p = below (λ i. cond (tariff_period i == p) (f i) 0) hour_count

  -- the balance of a tariff period in Wh, what its read hours come to, and how many of its hours are missing
  abbrev pub balance_wh : ℕ → ℕ
  balance_wh p = 1000 * b.kwh p

  abbrev pub read_total : ℕ → ℕ
  read_total p = total (λ i. unwrap_or (read_at i) 0) p

  abbrev pub missing_count : ℕ → ℕ
  missing_count p = total (λ i. cond (is_some (read_at i)) 0 1) p

  -- the profile's weight of a missing hour, and the sum of these weights over a tariff period
  abbrev pub profile_weight : ℕ → ℕ
  profile_weight i = cond (is_some (read_at i)) 0 (unwrap_or (c.profile.weight (c.first + i)) 0)

  abbrev pub weight_total : ℕ → ℕ
  weight_total p = total profile_weight p

  -- what a missing hour weighs and what all of its tariff period do: each counts 1 where the weights are all 0
  abbrev pub weighs : ℕ → ℕ
  weighs i = cond (weight_total (tariff_period i) == 0) 1 (profile_weight i)

  abbrev pub all_weigh : ℕ → ℕ
  all_weigh i = cond (weight_total (tariff_period i) == 0) (missing_count (tariff_period i)) (weight_total (tariff_period i))

  -- what the read hours of its tariff period leave of the balance, 0 where they exceed it
  abbrev pub left_over : ℕ → ℕ
  left_over i = balance_wh (tariff_period i) - read_total (tariff_period i)

  -- the one case in which read hours change: a remote (1) or sight (2) balance is over 1 kWh below what they come to or,
  -- with none missing, above it
  abbrev pub FarOff : ℕ → Type 0
  FarOff p =
      ((b.source ≡ 1) ⊎ (b.source ≡ 2)) × ((balance_wh p + 1000 < read_total p) ⊎ ((missing_count p ≡ 0) × (read_total p + 1000 < balance_wh p)))

  -- what is billed has a figure for each tariff period
  abbrev pub EveryPeriodBilled : Type 0
  EveryPeriodBilled = b.periods ≡ c.calendar.periods

  -- every missing hour that has energy to share has a weight
  abbrev pub WeightsKnown : Type 0
  WeightsKnown = (i : ℕ) → i < hour_count → is_some (read_at i) ≡ false → 0 < left_over i → is_some (c.profile.weight (c.first + i)) ≡ true

  -- a curve, by the Wh that it has at each place
  module _ (energy : ℕ → ℕ) where
    -- every tariff period of the curve comes to its balance within 1 kWh
    abbrev pub Within1KWh : Type 0
    Within1KWh = (p : ℕ) → 1 ≤ p → p ≤ c.calendar.periods → (total energy p ≤ balance_wh p + 1000) × (balance_wh p ≤ total energy p + 1000)

    -- every read hour has the Wh that were read, but in the one case
    abbrev pub ReadHoursStay : Type 0
    ReadHoursStay = (i : ℕ) → i < hour_count → is_some (read_at i) ≡ true → (FarOff (tariff_period i) → ⊥) → energy i ≡ unwrap_or (read_at i) 0

    -- every missing hour is less than 1 Wh from its exact share, left-over × weighs ÷ all-weigh
    abbrev pub MissingHoursShare : Type 0
    MissingHoursShare = (i : ℕ) → i < hour_count → is_some (read_at i) ≡ false →
        (energy i * all_weigh i < left_over i * weighs i + all_weigh i) × (left_over i * weighs i < energy i * all_weigh i + all_weigh i)

    pub record RightCurve : Type 0 where
      pub every_period : EveryPeriodBilled
      pub weights : WeightsKnown
      pub within_1_kwh : Within1KWh
      pub read_hours : ReadHoursStay
      pub missing_hours : MissingHoursShare

-- the closing rules give a right curve wherever the tests of a close pass
abbrev pub ClosingLaw : Type 0
ClosingLaw = (c : Case) (balances : ℕ → Option Balance) → is_granted (first_met (closing_tests c balances)) ≡ true →
    RightCurve c (bill c balances) (λ i. (closed_hour c (bill c balances) i).0)
