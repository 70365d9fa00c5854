-- The case that lent hours make, and what a tariff period of it comes to.
use Rattle.std.specs.Prelude.{ℕ, ◌+◌, ◌≤◌, cond, not, ◌&&◌, List, [], ◌∷◌, length, is_some, None, Option, slice_index_or}
use Rattle.std.specs.Option.{option_map, unwrap_or}
use Rattle.profile.specs.Weights.{Weights}
use Rattle.tariff.specs.Timetables.{Timetable}
use Rattle.vocabulary.specs.declared.energy.Wh.{Wh}
use Rattle.closing.specs.Closing.{Case, energy_read, has_weight, lies, missing_in, weight}
use Rattle.closing.specs.Sharing.{below}
use Rattle.closing.specs.declared.figures.Figures.{Figures}

-- an hour's Wh, if it was read
abbrev pub in_wh : Option Wh → Option ℕ
in_wh = option_map (λ e. e.0)

abbrev pub energies : List (Option Wh) → List (Option ℕ)
energies [] = []
energies (o ∷ os) = in_wh o ∷ energies os

abbrev pub case_of : ℕ → List (Option Wh) → Timetable → Weights → Case
case_of first hours calendar profile = record { first = first; hours = energies hours; calendar = calendar; profile = profile }

-- hours of a billing period: at most 1,500, each an hour, each with at most 55,000 Wh
pub record Lent (first : ℕ) (hours : List (Option Wh)) : Type 0 where
  pub few : length hours ≤ 1500
  pub last : first + length hours ≤ 876600
  pub small : (i : ℕ) → unwrap_or (in_wh (slice_index_or hours i None)) 0 ≤ 55000

-- what a tariff period comes to: its hours, the missing ones, the Wh of the read ones, and of the missing ones the
-- weights and how many have none
pub record Totals : Type 0 where
  pub hours : ℕ
  pub missing : ℕ
  pub read : ℕ
  pub weights : ℕ
  pub weightless : ℕ

-- the same as the program holds them, within limits
abbrev pub totals : Figures → Totals
totals f = record { hours = f.hours; missing = f.missing; read = f.read; weights = f.weights; weightless = f.weightless }

-- what the places below n of a tariff period come to
abbrev pub figures_to : Case → ℕ → ℕ → Totals
figures_to c p n =
    record {
      hours = below (λ i. cond (lies c p i) 1 0) n;
      missing = below (λ i. cond (missing_in c p i) 1 0) n;
      read = below (λ i. cond (lies c p i) (energy_read c i) 0) n;
      weights = below (λ i. cond (missing_in c p i) (weight c i) 0) n;
      weightless = below (λ i. cond (missing_in c p i && not (has_weight c i)) 1 0) n;
    }

abbrev pub figures_of : Case → ℕ → Totals
figures_of c p = figures_to c p (length c.hours)

-- no hours, one more read hour, and one more missing hour
abbrev pub no_hours : Totals
no_hours = record { hours = 0; missing = 0; read = 0; weights = 0; weightless = 0 }

abbrev pub with_read : Totals → ℕ → Totals
with_read f e = record { hours = f.hours + 1; missing = f.missing; read = f.read + e; weights = f.weights; weightless = f.weightless }

abbrev pub with_missing : Totals → Option ℕ → Totals
with_missing f w =
    record {
      hours = f.hours + 1;
      missing = f.missing + 1;
      read = f.read;
      weights = f.weights + unwrap_or w 0;
      weightless = f.weightless + cond (is_some w) 0 1;
    }
