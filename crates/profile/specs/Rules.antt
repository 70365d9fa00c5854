-- The rules of the profiles: the weight of every hour.
use Rattle.std.specs.Prelude.{◌≡◌, ℕ, ◌-◌, min, Bool, true, cond, ◌&&◌, List, [], ◌∷◌, length, Some, None, Option, ◌==◌, nat_le, nat_lt, slice_index}
use Rattle.std.specs.Option.{option_map}
use Rattle.std.specs.List.{list_all, list_any}
use Rattle.vocabulary.specs.Ranges.{between}
use Rattle.official_time.specs.declared.hour.Hour.{Hour}
use Rattle.sorted_table.specs.declared.place.Place.{Place}
use Rattle.vocabulary.specs.declared.energy.Wh.{Wh}
use Rattle.profile.specs.declared.span.Span.{Span}

-- even: 1 for each hour
abbrev pub even_weight : ℕ → Option ℕ
even_weight h = Some 1

-- a number above 1,000,000 is no weight
abbrev pub if_light : ℕ → Option ℕ
if_light w = cond (nat_le w 1000000) (Some w) None

-- published: the table's weight from its first hour on, none outside it
abbrev pub in_table : ℕ → List ℕ → ℕ → Bool
in_table first table h = nat_le first h && nat_lt (h - first) (length table)

abbrev pub published_weight : ℕ → List ℕ → ℕ → Option ℕ
published_weight first table h = cond (in_table first table h) (if_light (slice_index table (h - first))) None

-- all numbers of a table are weights
abbrev pub all_light : List ℕ → Bool
all_light = list_all (λ w. nat_le w 1000000)

-- where all are, each hour of the table has the number that stands there
abbrev pub TableLaw : Type 0
TableLaw = (first : ℕ) (table : List ℕ) (h : ℕ) → all_light table ≡ true → in_table first table h ≡ true → published_weight first table h ≡ Some (slice_index table (h - first))

-- last year: the Wh of the hour 8,736 hours before, which is 52 weeks, at most 1,000,000; none where the history lacks it
abbrev pub energy_at : List (Place Hour Wh) → ℕ → Option ℕ
energy_at [] n = None
energy_at (p ∷ ps) n = cond (p.key.number == n) (Some p.value.0) (energy_at ps n)

abbrev pub last_year_weight : List (Place Hour Wh) → ℕ → Option ℕ
last_year_weight history h = cond (nat_lt 8736 h) (option_map (λ wh. min wh 1000000) (energy_at history (h - 8736))) None

-- a history's hours rise
abbrev pub after : ℕ → List (Place Hour Wh) → Bool
after n [] = true
after n (p ∷ ps) = nat_lt n p.key.number && after p.key.number ps

-- interrupted: inside a span 0 where the profile below has a weight; elsewhere what is below
abbrev pub inside : List Span → ℕ → Bool
inside spans h = list_any (λ s. between s.first s.last h) spans

abbrev pub interrupted_weight : List Span → (ℕ → Option ℕ) → ℕ → Option ℕ
interrupted_weight spans below h = cond (inside spans h) (option_map (λ w. 0) (below h)) (below h)
