-- What the grant of a call tells: none of its tests is met.
use Rattle.std.proofs.Common.{◌≡◌, ℕ, Bool, true, false, cond, List, [], ◌∷◌, refl}
use Rattle.std.proofs.lemmas.Bool.{false≢true}
use Rattle.vocabulary.specs.Answers.{Answer, first_met, is_granted, refused, Test}
use Rattle.vocabulary.specs.Refusals.{plain}

abbrev pub NoneMet : List Test → Type 0
NoneMet [] = Unit {0}
NoneMet (t ∷ ts) = (t.met ≡ false) × NoneMet ts

head_passed : (n : ℕ) (t : Bool) (r : Answer) → is_granted (cond t (refused (plain n)) r) ≡ true → (t ≡ false) × (is_granted r ≡ true)
head_passed n true r h = absurd (false≢true h)
head_passed n false r h = (refl, h)

pub passed : (ts : List Test) → is_granted (first_met ts) ≡ true → NoneMet ts
passed [] h = tt
passed (t ∷ ts) h = let a = head_passed t.number t.met (first_met ts) h in (a.0, passed ts a.1)

pub front_passed : (t : Test) (ts : List Test) → is_granted (first_met (t ∷ ts)) ≡ true → is_granted (first_met ts) ≡ true
front_passed t ts h = (head_passed t.number t.met (first_met ts) h).1
