-- A rule of a table, shown at all of its entries by one test that is computed.
use Rattle.std.proofs.Common.{◌≡◌, ℕ, zero, suc, ◌+◌, ◌<◌, Bool, true, false, cond, ◌&&◌, eqb, List, [], ◌∷◌, length, get_or, sym, refl, ap, ◌∙◌, arith}
use Rattle.std.proofs.lemmas.Bool.{and_parts, eqb-true}

-- the entries are what f gives at their places, counted from i
abbrev pub agrees : (ℕ → ℕ) → ℕ → List ℕ → Bool
agrees f i [] = true
agrees f i (x ∷ xs) = eqb x (f i) && agrees f (suc i) xs

from : (f : ℕ → ℕ) (i : ℕ) (xs : List ℕ) → agrees f i xs ≡ true → (k d : ℕ) → k < length xs → get_or xs k d ≡ f (k + i)
from f i [] t k d h = absurd (omega arith)
from f i (x ∷ xs) t zero d h =
    let n : 0 + i ≡ i = omega arith in
    eqb-true x (f i) (and_parts (eqb x (f i)) (agrees f (suc i) xs) t).0 ∙ ap f (sym n)
from f i (x ∷ xs) t (suc k) d h =
    let n : suc k + i ≡ k + suc i = omega arith in
    from f (suc i) xs (and_parts (eqb x (f i)) (agrees f (suc i) xs) t).1 k d (omega arith) ∙ ap f (sym n)

-- an entry of a table that agrees with f
pub at_place : (f : ℕ → ℕ) (xs : List ℕ) (k d : ℕ) → k < length xs → get_or xs k d ≡ cond (agrees f 0 xs) (f k) (get_or xs k d)
at_place f xs k d h =
    go (agrees f 0 xs) refl
  where
    go : (b : Bool) → agrees f 0 xs ≡ b → get_or xs k d ≡ cond b (f k) (get_or xs k d)
    go true t = let n : k + 0 ≡ k = omega arith in from f 0 xs t k d h ∙ ap f n
    go false t = refl
