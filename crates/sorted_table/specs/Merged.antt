-- Two ascending lists of entries made one, which is how a run is put: the words of the private functions.
use Rattle.std.specs.Prelude.{◌≡◌, ℕ, ◌+◌, ◌<◌, ◌≤◌, List, [], ◌∷◌, ◌++◌, length, take, drop, Ok, Err, Result}
use Rattle.std.proofs.Common.{inl, inr}
use Rattle.sorted_table.specs.declared.merge.RunRefused.{RunRefused}
use Rattle.sorted_table.specs.declared.merge.RunRefused.TheVariants.{NotAscending, TooFewPlaces}
use Rattle.sorted_table.specs.Entries.{Rising}
use Rattle.sorted_table.specs.Orders.{TotalOrder}
use Rattle.sorted_table.specs.declared.place.Place.{Place}

module _ {K V : Type 0} {before : K → K → Type 0} (order : TotalOrder before) where
  -- what x ∷ xs and a run give, where `rest` is what xs and a run give
  unfoldable pub among : Place K V → List (Place K V) → (List (Place K V) → List (Place K V)) → List (Place K V) → List (Place K V)
  among x xs rest [] = x ∷ xs
  among x xs rest (y ∷ ys) =
      elim (order.total x.key y.key) [
        | inl x-first ↦ x ∷ rest (y ∷ ys)
        | inr other ↦ elim other [ inl same ↦ y ∷ rest ys | inr y-first ↦ y ∷ among x xs rest ys ]
      ]

  -- the entries of both in key order; of two with one key, the run's
  unfoldable pub merged : List (Place K V) → List (Place K V) → List (Place K V)
  merged [] run = run
  merged (x ∷ xs) run = among x xs (merged xs) run

  -- what counting says of a run: how many new keys it has, or why it cannot be put
  abbrev pub Counted : List (Place K V) → ℕ → List (Place K V) → Result ℕ RunRefused → Type 0
  Counted xs free run (Ok n) = Rising before run × (n ≤ free) × (length (merged xs run) ≡ length xs + n)
  Counted xs free run (Err NotAscending) = Rising before run → ⊥
  Counted xs free run (Err TooFewPlaces) = Rising before run × (length xs + free < length (merged xs run))

  -- the same with the place from which the run goes: what is before it stays as it is
  abbrev pub Planned : List (Place K V) → ℕ → List (Place K V) → Result (ℕ × ℕ) RunRefused → Type 0
  Planned xs free run (Ok (from, n)) = (from ≤ length xs) × Counted (drop from xs) free run (Ok n) × (merged xs run ≡ take from xs ++ merged (drop from xs) run)
  Planned xs free run (Err e) = Counted xs free run (Err e)
