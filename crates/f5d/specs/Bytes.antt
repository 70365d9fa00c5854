-- The order of texts, byte by byte: a text that another begins with is before it.
use Rattle.std.specs.Prelude.{◌≡◌, ℕ, ◌<◌, ◌⊎◌, List, [], ◌∷◌, refl}
use Rattle.std.proofs.Common.{inl, inr, ⊎_elim, arith}
use Rattle.std.proofs.lemmas.Bool.{cases_order}
use Rattle.std.specs.Cmp.{ranks}
use Rattle.std.specs.Cmp.Lexicographic.{slice_cmp}
use Rattle.std.specs.declared.cmp.Ordering.{Ordering}
use Rattle.std.specs.declared.cmp.Ordering.TheVariants.{Less, Equal, Greater}
use Rattle.std.specs.Ordering.{MatchOrdering, nat_cmp, ordering_then}

abbrev pub Lower : List ℕ → List ℕ → Type 0
Lower [] [] = ⊥
Lower [] (y ∷ ys) = Unit {0}
Lower (x ∷ xs) [] = ⊥
Lower (x ∷ xs) (y ∷ ys) = (x < y) ⊎ ((x ≡ y) × Lower xs ys)

-- it is a total order
pub lower_irreflexive : (xs : List ℕ) → Lower xs xs → ⊥
lower_irreflexive [] h = h
lower_irreflexive (x ∷ xs) (inl l) = omega arith
lower_irreflexive (x ∷ xs) (inr h) = lower_irreflexive xs h.1

pub lower_transitive : (xs ys zs : List ℕ) → Lower xs ys → Lower ys zs → Lower xs zs
lower_transitive [] [] zs p q = absurd p
lower_transitive [] (y ∷ ys) [] p q = absurd q
lower_transitive [] (y ∷ ys) (z ∷ zs) p q = tt
lower_transitive (x ∷ xs) [] zs p q = absurd p
lower_transitive (x ∷ xs) (y ∷ ys) [] p q = absurd q
lower_transitive (x ∷ xs) (y ∷ ys) (z ∷ zs) (inl l) (inl m) = inl (omega arith)
lower_transitive (x ∷ xs) (y ∷ ys) (z ∷ zs) (inl l) (inr m) = let e = m.0 in inl (omega arith)
lower_transitive (x ∷ xs) (y ∷ ys) (z ∷ zs) (inr l) (inl m) = let e = l.0 in inl (omega arith)
lower_transitive (x ∷ xs) (y ∷ ys) (z ∷ zs) (inr l) (inr m) = let e = l.0 in let f = m.0 in inr (omega arith, lower_transitive xs ys zs l.1 m.1)

pub lower_total : (xs ys : List ℕ) → Lower xs ys ⊎ ((xs ≡ ys) ⊎ Lower ys xs)
lower_total [] [] = inr (inl refl)
lower_total [] (y ∷ ys) = inl tt
lower_total (x ∷ xs) [] = inr (inr tt)
lower_total (x ∷ xs) (y ∷ ys) = ⊎_elim (λ e. same e (lower_total xs ys)) (⊎_elim (λ l. inl (inl l)) (λ g. inr (inr (inl g)))) (cases_order x y)
  where
    same : x ≡ y → Lower xs ys ⊎ ((xs ≡ ys) ⊎ Lower ys xs) → Lower (x ∷ xs) (y ∷ ys) ⊎ ((◌≡◌ {A = List ℕ} (x ∷ xs) (y ∷ ys)) ⊎ Lower (y ∷ ys) (x ∷ xs))
    same e = ⊎_elim (λ l. inl (inr (e, l))) (⊎_elim (λ f. inr (inl (λ i. e i ∷ f i))) (λ g. inr (inr (inr (omega arith, g)))))

-- bytes compared agree with it
pub lower_agrees : (xs ys : List ℕ) → MatchOrdering (slice_cmp nat_cmp xs ys) (Lower xs ys) (xs ≡ ys) (Lower ys xs)
lower_agrees [] [] = refl
lower_agrees [] (y ∷ ys) = tt
lower_agrees (x ∷ xs) [] = tt
lower_agrees (x ∷ xs) (y ∷ ys) = by (nat_cmp x y) (ranks x y) (slice_cmp nat_cmp xs ys) (lower_agrees xs ys)
  where
    by : (r : Ordering) → MatchOrdering r (x < y) (x ≡ y) (y < x) → (q : Ordering) → MatchOrdering q (Lower xs ys) (xs ≡ ys) (Lower ys xs) → MatchOrdering (ordering_then r q) (Lower (x ∷ xs) (y ∷ ys)) (◌≡◌ {A = List ℕ} (x ∷ xs) (y ∷ ys)) (Lower (y ∷ ys) (x ∷ xs))
    by Less l q h = inl l
    by Greater l q h = inl l
    by Equal e Less h = inr (e, h)
    by Equal e Equal h = λ i. e i ∷ h i
    by Equal e Greater h = inr (omega arith, h)
