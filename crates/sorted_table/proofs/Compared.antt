-- What comparing keys tells of their order, and what a binary search among entries in order then finds.
use Rattle.std.proofs.Common.{◌≡◌, ℕ, ◌+◌, ◌-◌, ◌<◌, MatchOption, true, false, List, [], ◌∷◌, length, get_or, Ok, Err, Result, Ordering, Less, Equal, Greater, sym, ap, ◌∙◌, ⊎_elim, arith}
use Rattle.std.proofs.lemmas.Bool.{cases_lt, true≢false}
use Rattle.std.proofs.lemmas.Cmp.{by_ranked}
use Rattle.std.proofs.lemmas.List.{get_or_default}
use Rattle.std.proofs.lemmas.List.Sorted.{searchable_from_sorted}
use Rattle.std.specs.Cmp.{means, one_rank, strict}
use Rattle.std.specs.List.{Contains}
use Rattle.std.specs.List.Sorted.{IsBinarySearchResult, IsNonDecreasingBy, IsPartitionedBy, IsSearchInRange, IsStrictlySortedBy}
use Rattle.std.specs.Ordering.{MatchOrdering, is_ge, is_lt, ordering_index}
use Rattle.std.specs.Result.{result_ok}
use Rattle.sorted_table.specs.Orders.{TotalOrder, compared, compared_agrees}
use Rattle.sorted_table.specs.Entries.{entry, Lacks, Rising}
use Rattle.sorted_table.specs.declared.place.Place.{Place}
use Rattle.sorted_table.proofs.Entries.{all_weaker, apart, asymmetric, not_itself}

module _ {K : Type 0} {before : K → K → Type 0} (order : TotalOrder before) where
  abbrev cmp : K → K → Ordering
  cmp = compared order

  agrees : (a b : K) → MatchOrdering (cmp a b) (before a b) (a ≡ b) (before b a)
  agrees = compared_agrees order

  -- whatever tells the order tells the same
  pub one_answer : (a b : K) (r : Ordering) → MatchOrdering r (before a b) (a ≡ b) (before b a) → r ≡ compared order a b
  one_answer a b r h = one_rank before order.irreflexive order.transitive a b r (cmp a b) h (agrees a b)

  pub told : (a b : K) (r : Ordering) → compared order a b ≡ r → MatchOrdering r (before a b) (a ≡ b) (before b a)
  told = means before order.irreflexive order.transitive cmp agrees

  pub less : (a b : K) → before a b → compared order a b ≡ Less
  less a b = one_rank before order.irreflexive order.transitive a b (cmp a b) Less (agrees a b)

  greater : (a b : K) → before b a → cmp a b ≡ Greater
  greater a b = one_rank before order.irreflexive order.transitive a b (cmp a b) Greater (agrees a b)

  module _ {V : Type 0} where
    pub rising : (xs : List (Place K V)) → IsStrictlySortedBy (λ x y. compared order x.key y.key) xs → Rising before xs
    unfolding IsStrictlySortedBy
    rising [] s = tt
    rising (x ∷ xs) s = (all_weaker (λ y. cmp x.key y.key ≡ Less) (λ y. before x.key y.key) (λ y. told x.key y.key Less) xs s.0, rising xs s.1)

    pub sorted : (xs : List (Place K V)) → Rising before xs → IsStrictlySortedBy (λ x y. compared order x.key y.key) xs
    unfolding IsStrictlySortedBy
    sorted [] up = tt
    sorted (x ∷ xs) up = (all_weaker (λ y. before x.key y.key) (λ y. cmp x.key y.key ≡ Less) (λ y. less x.key y.key) xs up.0, sorted xs up.1)

  module _ {V : Type 0} (xs : List (Place K V)) (k : K) (up : Rising before xs) where
    searchable : IsNonDecreasingBy (λ y. ordering_index (cmp y.key k)) xs
    searchable = searchable_from_sorted (strict before order.irreflexive order.transitive cmp agrees) (λ x. x.key) xs k (λ i d _ l. ap is_lt (greater (get_or xs (i + 1) d).key (get_or xs i d).key (apart before xs up i (i + 1) d (omega arith) l)))

    -- the entry at the place has the key, or none has it
    pub searched : (r : Result ℕ ℕ) → IsSearchInRange r (length xs) → IsBinarySearchResult (λ y. compared order y.key k) xs r → MatchOption (result_ok r) (Lacks xs k) (λ i. (x : Place K V) → Contains xs (entry k (get_or xs i x).value))
    searched (Ok i) within at = λ x.
        let v = (get_or xs i x).value in
        let other = get_or_default xs i (entry k v) x within in
        (i, within, λ n. record { key = told (get_or xs i (entry k v)).key k Equal (at (entry k v)) n; value = (other n).value })
    searched (Err i) within part = λ v h.
        let p = part searchable in
        let same = ap (λ (x : Place K V). x.key) h.2 in
        ⊎_elim (λ l. not_itself order _ k (told _ k Less (p.0 h.0 (entry k v) (omega arith) l)) same) (λ l. not_itself order k _ (told _ k Greater (p.1 h.0 (entry k v) l h.1)) (sym same)) (cases_lt h.0 i)

  pub before_lt : (a b : K) → before a b → is_lt (compared order a b) ≡ true
  before_lt a b h = ap is_lt (less a b h)

  pub lt_before : (a b : K) → is_lt (compared order a b) ≡ true → before a b
  lt_before a b t = by_ranked _ _ _ (cmp a b) (agrees a b) (λ e h. h) (λ e h. absurd (true≢false (sym t ∙ ap is_lt e))) (λ e h. absurd (true≢false (sym t ∙ ap is_lt e)))

  pub not_ge_before : (a b : K) (r : Ordering) → MatchOrdering r (before a b) (a ≡ b) (before b a) → is_ge r ≡ false → before a b
  not_ge_before a b r h t = by_ranked _ _ _ r h (λ e h. h) (λ e h. absurd (true≢false (sym (ap is_ge e) ∙ t))) (λ e h. absurd (true≢false (sym (ap is_ge e) ∙ t)))

  pub ge_not_before : (a b : K) (r : Ordering) → MatchOrdering r (before a b) (a ≡ b) (before b a) → is_ge r ≡ true → before a b → ⊥
  ge_not_before a b Less h t l = true≢false (sym t)
  ge_not_before a b Equal h t l = not_itself order a b l h
  ge_not_before a b Greater h t l = asymmetric order a b l h

  pub parted : {V : Type 0} (xs : List (Place K V)) (k : K) → Rising before xs → IsPartitionedBy (λ y. is_lt (compared order y.key k)) xs
  parted xs k up i j d le within t =
      ⊎_elim (λ l. before_lt _ k (order.transitive (get_or xs i d).key (get_or xs j d).key k (apart before xs up i j d l within) (lt_before _ k t)))
      (λ l. let e : i ≡ j = omega arith in ap (λ n. is_lt (cmp (get_or xs n d).key k)) e ∙ t) (cases_lt i j)

  -- where the last key is before k, all are
  pub all_before : {V : Type 0} (xs : List (Place K V)) (k : K) (last : Place K V) → Rising before xs → last ≡ get_or xs (length xs - 1) last → is_lt (compared order last.key k) ≡ true → (i : ℕ) (d : Place K V) → i < length xs → before (get_or xs i d).key k
  all_before xs k last up is t i d within =
      let there : length xs - 1 < length xs = omega arith in
      lt_before _ k (parted xs k up i (length xs - 1) d (omega arith) there (ap (λ x. is_lt (cmp x.key k)) (get_or_default xs (length xs - 1) d last there ∙ sym is) ∙ t))
