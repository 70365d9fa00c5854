-- What a table means: the entries in its first places.
use Rattle.std.specs.Prelude.{◌≡◌, ℕ, List, length, take}
use Rattle.sorted_table.specs.declared.key.Key
use Rattle.sorted_table.specs.declared.place.Place.{Place}
use Rattle.sorted_table.specs.declared.table.SortedTable.{SortedTable}

module _ {K V : Type 0} {key : Key.Ghosts K} where
  abbrev pub entries_of : SortedTable K V key → List (Place K V)
  entries_of t = take t.used t.places.now

  -- the number of its places, free or not
  abbrev pub room_of : SortedTable K V key → ℕ
  room_of t = length t.places.now

  -- every place is as it was
  abbrev pub Unchanged : SortedTable K V key → SortedTable K V key → Type 0
  Unchanged t u = (u.places.now ≡ t.places.now) × (u.used ≡ t.used)
