-- From what putting a run answers to what putting one entry answers.
use Rattle.std.proofs.Common.{◌≡◌, ℕ, ◌≤◌, List, [], ◌∷◌, length, Ok, Err, Result, MatchResult, IsErrAnd, ap, subst, sym, ⊎_elim, arith}
use Rattle.sorted_table.specs.declared.merge.RunRefused.{RunRefused}
use Rattle.sorted_table.specs.declared.merge.RunRefused.TheVariants.{NotAscending}
use Rattle.sorted_table.specs.declared.merge.RunRefused.TheVariants as run
use Rattle.sorted_table.specs.declared.place.Place.{Place}
use Rattle.sorted_table.specs.Orders.{TotalOrder}
use Rattle.sorted_table.specs.Entries.{entry, Lacks, OnePut, Put, Puts, Rising, RunPut}
use Rattle.sorted_table.proofs.Merging.{puts_merged}
use Rattle.sorted_table.proofs.Putting.{under_or_lacks}
use Rattle.vocabulary.specs.Refusals.{notice}
use Rattle.vocabulary.specs.declared.refusal.Refusal.{Refusal}
use Rattle.vocabulary.specs.declared.refusal.Refusal.TheVariants.{TooFewPlaces}

one_put : {K V : Type 0} {before : K → K → Type 0} {x : Place K V} {xs ys : List (Place K V)} → Puts before xs (x ∷ []) ys → Put before xs x.key x.value ys
one_put (Puts.more p Puts.none) = p

module _ {K V : Type 0} {before : K → K → Type 0} (order : TotalOrder before) (places : ℕ) (xs : List (Place K V)) (k : K) (v : V) (ys : List (Place K V)) (within : length xs ≤ places) (up : Rising before xs) where
  -- one entry is refused only where its key is new and every place is taken
  one_refused : (d : RunRefused) → RunPut before {T = Unit {0}} (Err d) places xs (entry k v ∷ []) ys → Lacks xs k × (length xs ≡ places)
  one_refused NotAscending h = absurd (h (tt, tt))
  one_refused run.TooFewPlaces h =
      let puts = puts_merged order xs (entry k v ∷ []) up (tt, tt) in
      let p = one_put puts in
      let n = h.1 _ puts in
      ⊎_elim (λ u. let m = p.same_count u.0 u.1 in absurd (omega arith)) (λ lacks. let m = p.one_more lacks in (lacks, omega arith)) (under_or_lacks order xs k)

  pub one_answered : (r : Result (Unit {0}) RunRefused) (s : Result (Unit {0}) Refusal) → MatchResult r (λ x. s ≡ Ok x) (λ d. IsErrAnd s (λ e. e ≡ TooFewPlaces)) → length ys ≤ places → RunPut before r places xs (entry k v ∷ []) ys → OnePut before s places xs k v ys
  one_answered (Ok x) s e fits h = subst (λ q. OnePut before q places xs k v ys) (sym e) (one_put h.1, fits)
  one_answered (Err d) (Ok x) e fits h = absurd e
  one_answered (Err d) (Err f) e fits h = let o = one_refused d h in (ap notice e, o.0, o.1)
