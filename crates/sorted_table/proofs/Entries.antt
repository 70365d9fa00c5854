-- Entries in key order: what stands in a list, and what a list lacks.
use Rattle.std.proofs.Common.{◌≡◌, ℕ, zero, suc, ◌<◌, ◌⊎◌, List, [], ◌∷◌, length, get_or, subst, inl, inr, ⊎_elim, not-suc-le-zero, arith}
use Rattle.std.specs.List.{AllByRecursion, Contains}
use Rattle.std.proofs.lemmas.List.Elements.{All-contains, All-from_recursion}
use Rattle.sorted_table.specs.Orders.{TotalOrder}
use Rattle.sorted_table.specs.Entries.{Rising}
use Rattle.sorted_table.specs.declared.place.Place.{Place}

pub has_here : {X : Type 0} (x : X) (xs : List X) (p : X) → x ≡ p → Contains (x ∷ xs) p
has_here x xs p e = (0, omega arith, e)

pub has_there : {X : Type 0} (x : X) (xs : List X) (p : X) → Contains xs p → Contains (x ∷ xs) p
has_there x xs p h = (suc h.0, omega arith, h.2)

pub has_cases : {X : Type 0} (x : X) (xs : List X) (p : X) → Contains (x ∷ xs) p → (x ≡ p) ⊎ Contains xs p
has_cases x xs p (zero, l, here) = inl here
has_cases x xs p (suc k, l, here) = inr (k, omega arith, here)

pub has_none : {X : Type 0} (p : X) → Contains [] p → ⊥
has_none p h = not-suc-le-zero h.1

pub all_has : {X : Type 0} (P : X → Type 0) (xs : List X) (x : X) → AllByRecursion P xs → Contains xs x → P x
all_has P xs x h = All-contains P xs x (All-from_recursion P xs h)

pub all_weaker : {X : Type 0} (P Q : X → Type 0) → ((x : X) → P x → Q x) → (xs : List X) → AllByRecursion P xs → AllByRecursion Q xs
all_weaker P Q f [] h = tt
all_weaker P Q f (x ∷ xs) h = (f x h.0, all_weaker P Q f xs h.1)

module _ {K : Type 0} {before : K → K → Type 0} (order : TotalOrder before) where
  pub asymmetric : (a b : K) → before a b → before b a → ⊥
  asymmetric a b p q = order.irreflexive a (order.transitive a b a p q)

  pub not_itself : (a b : K) → before a b → a ≡ b → ⊥
  not_itself a b p e = order.irreflexive b (subst (λ k. before k b) e p)

  pub by_order : {Goal : Type 0} (a b : K) → (before a b → Goal) → (a ≡ b → Goal) → (before b a → Goal) → Goal
  by_order a b less same more = ⊎_elim less (⊎_elim same more) (order.total a b)

  -- what is before k is before all that k is before
  pub all_behind : {V : Type 0} (a k : K) (xs : List (Place K V)) → before a k → AllByRecursion (λ y. before k y.key) xs → AllByRecursion (λ y. before a y.key) xs
  all_behind a k xs h = all_weaker (λ y. before k y.key) (λ y. before a y.key) (λ y b. order.transitive a k y.key h b) xs

-- of two entries the first has the lower key
pub apart : {K V : Type 0} (before : K → K → Type 0) (xs : List (Place K V)) → Rising before xs → (i j : ℕ) (d : Place K V) → i < j → j < length xs → before (get_or xs i d).key (get_or xs j d).key
apart before [] up i j d l within = absurd (omega arith)
apart before (x ∷ xs) up zero zero d l within = absurd (omega arith)
apart before (x ∷ xs) up zero (suc j) d l within = All-from_recursion (λ y. before x.key y.key) xs up.0 j d (omega arith)
apart before (x ∷ xs) up (suc i) zero d l within = absurd (omega arith)
apart before (x ∷ xs) up (suc i) (suc j) d l within = apart before xs up.1 i j d (omega arith) (omega arith)
