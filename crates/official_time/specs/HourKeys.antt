-- The order of hours: by their numbers.
use Rattle.std.specs.Prelude.{◌≡◌, ◌<◌}
use denote.Struct.Record.{values_one}
use Rattle.std.specs.Ordering.{MatchOrdering, nat_cmp}
use Rattle.sorted_table.specs.Orders.{TotalOrder, by_number, by_number_agrees}
use Rattle.official_time.specs.contracts.hour.Hour.{struct, the_propositions}
use Rattle.official_time.specs.declared.hour.Hour.{Hour}

abbrev pub Earlier : Hour → Hour → Type 0
Earlier a b = a.number < b.number

-- an hour is its number
pub same_hour : (a b : Hour) → a.number ≡ b.number → a ≡ b
same_hour a b e = values_one struct the_propositions a b (cc e)

pub hour_order : TotalOrder Earlier
hour_order = by_number (λ h. h.number) same_hour

pub hour_agrees : (a b : Hour) → MatchOrdering (nat_cmp a.number b.number) (Earlier a b) (a ≡ b) (Earlier b a)
hour_agrees = by_number_agrees (λ h. h.number) same_hour
