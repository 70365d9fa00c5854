-- What a call answers: it is granted, or refused with the first of its tests that is met.
use Rattle.std.specs.Prelude.{ℕ, Bool, true, false, cond, List, [], ◌∷◌}
use Rattle.vocabulary.specs.Refusals.{plain}
use Rattle.vocabulary.specs.declared.refusal.Notice.{Notice}

pub data Answer : Type 0 where
  granted : Answer
  refused : Notice → Answer

-- a test of a call: whether it is met, and the number that then refuses
pub record Test : Type 0 where
  pub met : Bool
  pub number : ℕ

abbrev pub test : ℕ → Bool → Test
test n b = record { met = b; number = n }

abbrev pub first_met : List Test → Answer
first_met [] = granted
first_met (t ∷ ts) = cond t.met (refused (plain t.number)) (first_met ts)

abbrev pub is_granted : Answer → Bool
is_granted granted = true
is_granted (refused r) = false
