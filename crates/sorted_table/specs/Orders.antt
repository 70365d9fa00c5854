-- What a total strict order is.
use Rattle.std.specs.Prelude.{◌≡◌, ℕ, ◌<◌, ◌⊎◌}
use Rattle.std.proofs.Common.{inl, inr, ⊎_elim, arith}
use Rattle.std.proofs.lemmas.Bool.{cases_order}
use Rattle.std.specs.Cmp.{ranks}
use Rattle.std.specs.declared.cmp.Ordering.{Ordering}
use Rattle.std.specs.declared.cmp.Ordering.TheVariants.{Less, Equal, Greater}
use Rattle.std.specs.Ordering.{MatchOrdering, nat_cmp}

-- Nothing is before itself, what is before another is before all behind that, and of two different ones one is before the other.
pub record TotalOrder {K : Type 0} (before : K → K → Type 0) : Type 0 where
  pub irreflexive : (a : K) → before a a → ⊥
  pub transitive : (a b c : K) → before a b → before b c → before a c
  pub total : (a b : K) → before a b ⊎ ((a ≡ b) ⊎ before b a)

-- which of three holds
abbrev one_of_three : {P Q R : Type 0} → P ⊎ (Q ⊎ R) → Ordering
one_of_three (inl p) = Less
one_of_three (inr (inl q)) = Equal
one_of_three (inr (inr r)) = Greater

module _ {K : Type 0} {before : K → K → Type 0} where
  -- how a stands to b in an order
  abbrev pub compared : TotalOrder before → K → K → Ordering
  compared order a b = one_of_three (order.total a b)

  pub compared_agrees : (order : TotalOrder before) (a b : K) → MatchOrdering (compared order a b) (before a b) (a ≡ b) (before b a)
  compared_agrees order a b = by (order.total a b)
    where
      by : (t : before a b ⊎ ((a ≡ b) ⊎ before b a)) → MatchOrdering (one_of_three t) (before a b) (a ≡ b) (before b a)
      by (inl l) = l
      by (inr (inl e)) = e
      by (inr (inr g)) = g

-- a total order turned round is one
pub turned : {K : Type 0} {before : K → K → Type 0} → TotalOrder before → TotalOrder (λ a b. before b a)
turned order = record {
  irreflexive = order.irreflexive;
  transitive = λ a b c l m. order.transitive c b a m l;
  total = λ a b. ⊎_elim (λ l. inr (inr l)) (⊎_elim (λ e. inr (inl e)) inl) (order.total a b);
}

-- What has a number of its own is ordered by it.
pub by_number : {K : Type 0} (number : K → ℕ) → ((a b : K) → number a ≡ number b → a ≡ b) → TotalOrder (λ a b. number a < number b)
by_number number own = record {
  irreflexive = λ a l. omega arith;
  transitive = λ a b c l m. omega arith;
  total = λ a b. ⊎_elim (λ e. inr (inl (own a b e))) (⊎_elim inl (λ l. inr (inr l))) (cases_order (number a) (number b));
}

-- numbers compared agree with that order
pub by_number_agrees : {K : Type 0} (number : K → ℕ) → ((a b : K) → number a ≡ number b → a ≡ b) → (a b : K) → MatchOrdering (nat_cmp (number a) (number b)) (number a < number b) (a ≡ b) (number b < number a)
by_number_agrees number own a b = by (nat_cmp (number a) (number b)) (ranks (number a) (number b))
  where
    by : (r : Ordering) → MatchOrdering r (number a < number b) (number a ≡ number b) (number b < number a) → MatchOrdering r (number a < number b) (a ≡ b) (number b < number a)
    by Less h = h
    by Equal h = own a b h
    by Greater h = h
