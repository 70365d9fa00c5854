-- The closing rules: what is billed for a billing period, and what each of its hours then gets.
use Rattle.std.specs.Prelude.{ℕ, ◌+◌, ◌-◌, ◌*◌, ◌/◌, Bool, true, false, cond, not, ◌&&◌, List, [], ◌∷◌, length, is_some, Some, None, Option, ◌==◌, nat_le, nat_lt, slice_index, slice_index_or}
use Rattle.std.specs.Option.{unwrap_or}
use Rattle.profile.specs.Weights.{Weights}
use Rattle.tariff.specs.Timetables.{Timetable}
use Rattle.vocabulary.specs.Answers.{Test, test}
use Rattle.closing.specs.Sharing.{below, portion}

-- a balance: the kWh of each tariff period, from period 1 on
pub record Balance : Type 0 where
  pub periods : ℕ
  pub kwh : List ℕ

-- what a close goes by: the hours from the first on, each read (its Wh) or missing, and what calendar and profile mean
pub record Case : Type 0 where
  pub first : ℕ
  pub hours : List (Option ℕ)
  pub calendar : Timetable
  pub profile : Weights

-- ## The hours of a billing period, by their places from 0 on

module _ (c : Case) where
  abbrev pub count : ℕ
  count = length c.hours

  abbrev pub period_at : ℕ → ℕ
  period_at i = c.calendar.period (c.first + i)

  -- the hour at place i lies in tariff period p
  abbrev pub lies : ℕ → ℕ → Bool
  lies p i = period_at i == p

  abbrev pub was_read : ℕ → Bool
  was_read i = is_some (slice_index_or c.hours i None)

  abbrev pub energy_read : ℕ → ℕ
  energy_read i = unwrap_or (slice_index_or c.hours i None) 0

  abbrev pub weight : ℕ → ℕ
  weight i = unwrap_or (c.profile.weight (c.first + i)) 0

  abbrev pub has_weight : ℕ → Bool
  has_weight i = is_some (c.profile.weight (c.first + i))

  -- of a tariff period: the read hours, and the missing ones
  abbrev pub read_in : ℕ → ℕ → Bool
  read_in p i = lies p i && was_read i

  abbrev pub missing_in : ℕ → ℕ → Bool
  missing_in p i = lies p i && not (was_read i)

  -- how many places have a property, and whether one has it
  abbrev pub tally : (ℕ → Bool) → ℕ
  tally q = below (λ i. cond (q i) 1 0) count

  abbrev pub some_place : (ℕ → Bool) → Bool
  some_place q = nat_lt 0 (tally q)

  abbrev pub any_missing : Bool
  any_missing = some_place (λ i. not (was_read i))

  -- how many hours of a tariff period are missing
  abbrev pub missing : ℕ → ℕ
  missing p = tally (missing_in p)

  -- what the read hours of a tariff period come to, in Wh
  abbrev pub read_wh : ℕ → ℕ
  read_wh p = below (λ i. cond (lies p i) (energy_read i) 0) count

  -- the same in kWh, half of one being rounded up
  abbrev pub computed : ℕ → ℕ
  computed p = (read_wh p + 500) / 1000

  -- the weights by which a group of places shares: as given, or 1 for each where those given are all 0
  abbrev pub weighed : (ℕ → Bool) → (ℕ → ℕ) → ℕ → ℕ
  weighed group w i =
      cond (below (λ j. cond (group j) (w j) 0) count == 0) (cond (group i) 1 0) (cond (group i) (w i) 0)

  -- some tariff period has a property
  abbrev pub some_period : (ℕ → Bool) → Bool
  some_period q = nat_lt 0 (below (λ k. cond (q (k + 1)) 1 0) c.calendar.periods)

-- ## What is billed

-- the balance that is billed: its source, which is 0 where it is computed from the hours, and its kWh by tariff period
pub record Billed : Type 0 where
  pub source : ℕ
  pub periods : ℕ
  pub kwh : ℕ → ℕ

abbrev pub held : ℕ → Balance → Billed
held s b = record { source = s; periods = b.periods; kwh = λ p. slice_index b.kwh (p - 1) }

abbrev pub from_hours : Case → Billed
from_hours c = record { source = 0; periods = c.calendar.periods; kwh = computed c }

abbrev pub first_held : (ℕ → Option Balance) → List ℕ → Option Billed
first_held balances [] = None
first_held balances (s ∷ ss) = elim (balances s) [ None ↦ first_held balances ss | Some b ↦ Some (held s b) ]

-- the remote balance (1) if there is one; if not, and no hour is missing, the computed one; else the first of
-- sight (2), customer's own reading (3), history (4) and utilisation factor (5)
abbrev pub billed : Case → (ℕ → Option Balance) → Option Billed
billed c balances =
    elim (balances 1) [
      | Some b ↦ Some (held 1 b)
      | None ↦ cond (any_missing c) (first_held balances (2 ∷ 3 ∷ 4 ∷ 5 ∷ [])) (Some (from_hours c))
    ]

abbrev pub nothing_billed : Billed
nothing_billed = record { source = 0; periods = 0; kwh = λ p. 0 }

abbrev pub bill : Case → (ℕ → Option Balance) → Billed
bill c balances = unwrap_or (billed c balances) nothing_billed

-- ## What each hour gets

-- what happens in a tariff period: read hours are kept or share the balance anew; where some are missing, these are
-- filled from what the read hours leave of the balance, or, where those exceed it, get nothing
pub data Rule : Type 0 where
  keep : Rule
  rescale : Rule
  fill : Rule
  cut_down : Rule

module _ (c : Case) (b : Billed) where
  abbrev pub billed_wh : ℕ → ℕ
  billed_wh p = 1000 * b.kwh p

  abbrev pub rule : ℕ → Rule
  rule p =
      cond (missing c p == 0)
      (cond (nat_le (read_wh c p) (billed_wh p + 1000) && nat_le (billed_wh p) (read_wh c p + 1000)) keep rescale)
      (cond (nat_le (read_wh c p) (billed_wh p + 1000)) fill cut_down)

  -- read hours share the balance by their own energies
  abbrev pub read_share : ℕ → ℕ → ℕ
  read_share p i = portion (billed_wh p) (weighed c (read_in c p) (energy_read c)) (count c) i

  -- missing hours share what is left of it by the profile's weights
  abbrev pub missing_share : ℕ → ℕ → ℕ
  missing_share p i = portion (billed_wh p - read_wh c p) (weighed c (missing_in c p) (weight c)) (count c) i

  -- how a missing hour's energy was come by, from the source of what is billed
  abbrev pub missing_method : ℕ → ℕ
  missing_method s = slice_index (2 ∷ 2 ∷ 2 ∷ 4 ∷ 5 ∷ 6 ∷ []) s

  -- energy and method of a read hour, and of a missing one
  abbrev pub read_hour : Rule → ℕ → ℕ → ℕ × ℕ
  read_hour keep p i = (energy_read c i, 1)
  read_hour rescale p i = (read_share p i, 3)
  read_hour fill p i = (energy_read c i, 1)
  read_hour cut_down p i = (read_share p i, 3)

  abbrev pub missing_hour : Rule → ℕ → ℕ → ℕ × ℕ
  missing_hour keep p i = (0, missing_method b.source)
  missing_hour rescale p i = (0, missing_method b.source)
  missing_hour fill p i = (missing_share p i, missing_method b.source)
  missing_hour cut_down p i = (0, missing_method b.source)

  abbrev pub closed_hour : ℕ → ℕ × ℕ
  closed_hour i =
      let p = period_at c i in
      cond (was_read c i) (read_hour (rule p) p i) (missing_hour (rule p) p i)

  -- 1 for a firm curve, 0 for a provisional one
  abbrev pub firmness : ℕ
  firmness = cond (nat_le 3 b.source) 0 1

  -- ## What stops a close

  -- the rule changes read hours
  abbrev pub changes : Rule → Bool
  changes keep = false
  changes rescale = true
  changes fill = false
  changes cut_down = true

  -- the rule shares energy among missing hours
  abbrev pub fills : Rule → Bool
  fills keep = false
  fills rescale = false
  fills fill = true
  fills cut_down = false

  -- over 1 kWh for a tariff period without hours
  abbrev pub hourless : ℕ → Bool
  hourless p = tally c (lies c p) == 0 && nat_lt 1 (b.kwh p)

  -- a balance that is no reading of the distributor's would change read hours
  abbrev pub unreal : ℕ → Bool
  unreal p = nat_le 3 b.source && changes (rule p)

  -- a missing hour with energy to share has no weight
  abbrev pub weightless : ℕ → Bool
  weightless p = fills (rule p) && nat_lt (read_wh c p) (billed_wh p) && some_place c (λ i. missing_in c p i && not (has_weight c i))

-- the tests of a close that look at hours, balances, calendar and profile
abbrev pub closing_tests : Case → (ℕ → Option Balance) → List Test
closing_tests c balances =
    let b = bill c balances in
    test 24 (not (is_some (billed c balances)))
    ∷ test 25 (not (b.periods == c.calendar.periods))
    ∷ test 26 (some_period c (hourless c b))
    ∷ test 27 (some_period c (unreal c b))
    ∷ test 15 (some_period c (weightless c b))
    ∷ []
