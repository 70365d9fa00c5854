-- Texts that are written one behind the other over the front of a buffer.
use Rattle.std.proofs.Common.{◌≡◌, ℕ, List, [], ◌∷◌, ◌++◌, append_assoc}
use Rattle.std.specs.List.{concat}
use Rattle.f5d.specs.Records.{ended}

-- the texts of a line, one behind the other, are its fields
pub line_joined : (supply label energy invoice : List ℕ) (flag method firmness : ℕ) →
    ((((supply ++ (59 ∷ (label ++ 59 ∷ flag ∷ 59 ∷ []))) ++ energy) ++ (59 ∷ 59 ∷ 59 ∷ 59 ∷ 59 ∷ 59 ∷ method ∷ 59 ∷ firmness ∷ 59 ∷ [])) ++ invoice) ++ (59 ∷ 10 ∷ [])
    ≡ concat (ended supply ∷ ended label ∷ ended (flag ∷ []) ∷ ended energy ∷ ended [] ∷ ended [] ∷ ended [] ∷ ended [] ∷ ended [] ∷ ended (method ∷ []) ∷ ended (firmness ∷ []) ∷ (invoice ++ 59 ∷ 10 ∷ []) ∷ [])
line_joined supply label energy invoice flag method firmness = simp append_assoc
