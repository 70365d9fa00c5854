-- How a name is written, part behind part.
use Rattle.std.proofs.Common.{◌≡◌, ℕ, List, [], ◌∷◌, ◌++◌, append_assoc}

-- the parts of a name, one behind the other
pub name_joined : (w d r t v : List ℕ) → (((w ++ 95 ∷ d) ++ 95 ∷ r) ++ (95 ∷ (t ++ 46 ∷ []))) ++ v ≡ w ++ 95 ∷ (d ++ 95 ∷ (r ++ 95 ∷ (t ++ 46 ∷ v)))
name_joined w d r t v = simp append_assoc
