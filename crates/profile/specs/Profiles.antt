-- The meanings of the profiles.
use Rattle.std.specs.Prelude.{ℕ, ◌-◌, min, List, Some, None, Option, nat_le, nat_lt, slice_index}
use Rattle.std.proofs.Common.{arith}
use Rattle.std.proofs.lemmas.Bool.{cond_both, leb-true}
use Rattle.std.specs.Option.{option_map}
use Rattle.official_time.specs.declared.hour.Hour.{Hour}
use Rattle.sorted_table.specs.declared.place.Place.{Place}
use Rattle.vocabulary.specs.declared.energy.Wh.{Wh}
use Rattle.profile.specs.declared.span.Span.{Span}
use Rattle.profile.specs.Rules.{energy_at, even_weight, if_light, in_table, inside, interrupted_weight, last_year_weight, published_weight}
use Rattle.profile.specs.Weights.{Light, Weights}

abbrev pub even_weights : Weights
even_weights = record { weight = even_weight; light = λ h. omega arith }

pub if_light_light : (w : ℕ) → Light (if_light w)
if_light_light w = cond_both (nat_le w 1000000) (Some w) None Light (λ e. leb-true w 1000000 e) (λ _. tt)

abbrev pub published_weights : ℕ → List ℕ → Weights
published_weights first table = record {
  weight = published_weight first table;
  light = λ h. cond_both (in_table first table h) (if_light (slice_index table (h - first))) None Light (λ _. if_light_light (slice_index table (h - first))) (λ _. tt);
}

pub capped_light : (o : Option ℕ) → Light (option_map (λ wh. min wh 1000000) o)
capped_light None = tt
capped_light (Some w) = omega arith

abbrev pub last_year_weights : List (Place Hour Wh) → Weights
last_year_weights history = record {
  weight = last_year_weight history;
  light = λ h. cond_both (nat_lt 8736 h) (option_map (λ wh. min wh 1000000) (energy_at history (h - 8736))) None Light (λ _. capped_light (energy_at history (h - 8736))) (λ _. tt);
}

pub blank_light : (o : Option ℕ) → Light (option_map (λ w. 0) o)
blank_light None = tt
blank_light (Some w) = omega arith

abbrev pub interrupted_weights : List Span → Weights → Weights
interrupted_weights spans below = record {
  weight = interrupted_weight spans below.weight;
  light = λ h. cond_both (inside spans h) (option_map (λ w. 0) (below.weight h)) (below.weight h) Light (λ _. blank_light (below.weight h)) (λ _. below.light h);
}
