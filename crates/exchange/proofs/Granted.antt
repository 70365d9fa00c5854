-- What a grant tells of the call: that its book is there, and that its file has a curve.
use Rattle.std.proofs.Common.{◌≡◌, ℕ, ◌<◌, Bool, true, false, cond, length, is_some, Some, None, Option, refl, ap}
use Rattle.std.proofs.lemmas.Bool.{false≢true, ltb-true}
use Rattle.vocabulary.specs.Answers.{Answer, is_granted}
use Rattle.exchange.specs.Exchange.{grants, has_book, World}

where_there : (b : Bool) (a : Answer) → grants (cond b (Some a) None) ≡ true → (b ≡ true) × (is_granted a ≡ true)
where_there true a g = (refl, g)
where_there false a g = absurd (false≢true g)

pub book_called : (w : World) (k : ℕ) (a : Answer) → grants (cond (has_book w k) (Some a) None) ≡ true → (k < length w.books) × (is_granted a ≡ true)
book_called w k a g = let p = where_there (has_book w k) a g in (ltb-true k (length w.books) p.0, p.1)

pub file_called : (empty : Bool) (a : Answer) → grants (cond empty None (Some a)) ≡ true → (empty ≡ false) × (is_granted a ≡ true)
file_called true a g = absurd (false≢true g)
file_called false a g = (refl, g)

pub none_some : {A : Type 0} (x : A) → None ≡ Some x → ⊥
none_some {A} x e = false≢true (ap (λ (o : Option A). is_some o) e)
