-- Where a key stands among entries: the words of the private functions that search.
use Rattle.std.specs.Prelude.{◌≡◌, List, [], ◌∷◌}
use Rattle.std.specs.declared.cmp.Ordering.TheVariants.{Greater}
use Rattle.std.specs.declared.cmp.Ordering.{Ordering}
use Rattle.std.specs.Ordering.{MatchOrdering}
use Rattle.sorted_table.specs.declared.place.Place.{Place}

module _ {K V : Type 0} (before : K → K → Type 0) where
  -- how the first of the entries stands to a key; where there is none, the key comes first
  abbrev pub Stands : List (Place K V) → K → Ordering → Type 0
  Stands [] k r = r ≡ Greater
  Stands (x ∷ xs) k r = MatchOrdering r (before x.key k) (x.key ≡ k) (before k x.key)
