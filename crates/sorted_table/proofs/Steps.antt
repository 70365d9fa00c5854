-- One step of going through entries and a run together.
use Rattle.std.proofs.Common.{◌≡◌, ℕ, zero, suc, ◌+◌, ◌<◌, ◌≤◌, List, [], ◌∷◌, length, get_or, drop, Less, Equal, Greater, sym, ap, ◌∙◌, add-one, arith}
use Rattle.sorted_table.specs.Orders.{TotalOrder}
use Rattle.sorted_table.specs.Merged.{merged}
use Rattle.sorted_table.specs.Searched.{Stands}
use Rattle.sorted_table.specs.declared.place.Place.{Place}
use Rattle.sorted_table.proofs.Entries.{by_order}
use Rattle.sorted_table.proofs.Merging.{merged_old, merged_both, merged_new, merged_none, merged_out}

module _ {K V : Type 0} {before : K → K → Type 0} (order : TotalOrder before) where
  -- the entry at the place is next
  pub at_less : (xs : List (Place K V)) (i : ℕ) (d y : Place K V) (ys : List (Place K V)) → Stands before (drop i xs) y.key Less → (i < length xs) × (merged order (drop i xs) (y ∷ ys) ≡ get_or xs i d ∷ merged order (drop (i + 1) xs) (y ∷ ys))
  at_less [] zero d y ys s = absurd cc
  at_less [] (suc i) d y ys s = absurd cc
  at_less (x ∷ xs) zero d y ys s = (omega arith, merged_old order x xs y ys s)
  at_less (x ∷ xs) (suc i) d y ys s = let r = at_less xs i d y ys s in (omega arith, rw (add-one) (rw add-one at r.1))

  -- the run's entry takes the place of the one there
  pub at_equal : (xs : List (Place K V)) (i : ℕ) (y : Place K V) (ys : List (Place K V)) → Stands before (drop i xs) y.key Equal → (i < length xs) × (merged order (drop i xs) (y ∷ ys) ≡ y ∷ merged order (drop (i + 1) xs) ys)
  at_equal [] zero y ys s = absurd cc
  at_equal [] (suc i) y ys s = absurd cc
  at_equal (x ∷ xs) zero y ys s = (omega arith, merged_both order x xs y ys s)
  at_equal (x ∷ xs) (suc i) y ys s = let r = at_equal xs i y ys s in (omega arith, rw (add-one) (rw add-one at r.1))

  -- the run's entry is next
  pub at_greater : (xs : List (Place K V)) (y : Place K V) (ys : List (Place K V)) → Stands before xs y.key Greater → merged order xs (y ∷ ys) ≡ y ∷ merged order xs ys
  at_greater [] y ys s = merged_none order (y ∷ ys) ∙ ap (λ zs. y ∷ zs) (sym (merged_none order ys))
  at_greater (x ∷ xs) y ys s = merged_new order x xs y ys s

  -- no entry is lost
  pub merged_length : (xs run : List (Place K V)) → length xs ≤ length (merged order xs run)
  merged_length xs [] = rw merged_out (omega arith)
  merged_length [] (y ∷ ys) = omega arith
  merged_length (x ∷ xs) (y ∷ ys) =
      by_order order x.key y.key
      (λ b. let n = merged_length xs (y ∷ ys) in omega (arith, ap length (merged_old order x xs y ys b)))
      (λ e. let n = merged_length xs ys in omega (arith, ap length (merged_both order x xs y ys e)))
      (λ b. let n = merged_length (x ∷ xs) ys in omega (arith, ap length (merged_new order x xs y ys b)))

  pub merged_some : (xs : List (Place K V)) (y : Place K V) (ys : List (Place K V)) → 0 < length (merged order xs (y ∷ ys))
  merged_some [] y ys = omega (arith, ap length (merged_none order (y ∷ ys)))
  merged_some (x ∷ xs) y ys = omega (arith, merged_length (x ∷ xs) (y ∷ ys))
