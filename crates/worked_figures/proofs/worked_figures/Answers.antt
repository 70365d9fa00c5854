use Rattle.std.proofs.Common.{refl, arith}
use Rattle.official_time.specs.Dates.{day_of, is_date}
use Rattle.official_time.specs.Hours.{flag}
use Rattle.std.specs.Fmt.{digits}
use Rattle.f5d.specs.Written.{label_of, lines_text}
use Rattle.worked_figures.proofs.Exchanges.{night_after, night_exchanged}
use Rattle.worked_figures.proofs.worked_figures.Goals as goal

pub returns : goal.returns
unfolding day_of digits flag is_date label_of lines_text
returns c = record {
  before_spring = record { hour = (omega arith, omega arith); date = refl; clock = refl; below_24 = omega arith; full = (refl, refl); season = refl };
  after_spring = record { hour = (omega arith, omega arith); date = refl; clock = refl; below_24 = omega arith; full = (refl, refl); season = refl };
  before_autumn = record { hour = (omega arith, omega arith); date = refl; clock = refl; below_24 = omega arith; full = (refl, refl); season = refl };
  after_autumn = record { hour = (omega arith, omega arith); date = refl; clock = refl; below_24 = omega arith; full = (refl, refl); season = refl };
  shared = (refl, refl, refl);
  kept = record { answers = refl; energies = refl; how = refl };
  rescaled = record { answers = refl; energies = refl; how = refl };
  filled = record { answers = refl; energies = refl; how = refl };
  cut_down = record { answers = refl; energies = refl; how = refl };
  register = record { answers = refl; holds = refl };
  backwards = refl;
  rounded_down = record { source = refl; value = refl };
  rounded_up = record { source = refl; value = refl };
  written = refl;
  exchanged = night_exchanged;
  refused_after = night_after;
}
